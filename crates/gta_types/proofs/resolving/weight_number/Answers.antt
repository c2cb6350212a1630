use Rattle.std.proofs.Common.{◌≤◌, map, length, sym, ◌∙◌, arith}
use Rattle.std.proofs.lemmas.List.{length-map}
use Rattle.gta_spec.specs.declared.parts.ColumnItem.{ColumnItem}
use Rattle.spec_tables.proofs.NumberOf.{number_of-le, number_of-append-past, number_of-append-within}
use Rattle.gta_types.proofs.resolving.weight_number.Goals as goal

pub overflow_add-result : goal.overflow_add-result
overflow_add-result c =
    let lists = c.args.lists.now in
    let e = rw c.as_slice-else-column-columns.ensures.value at c.number_in.ensures.number in
    let le = number_of-le lists.measures.items c.args.name.now in
    record { fits = omega (arith, lists.few_columns, lists.few_measures, e, le) }

pub returns-then-column-columns : goal.returns-then-column-columns
returns-then-column-columns c =
    let lists = c.args.lists.now in
    let names = map (λ (item : ColumnItem). item.name) lists.columns.items in
    let e = rw c.as_slice.ensures.value at c.column_number-column.ensures in
    let len = length-map lists.columns.items (λ (item : ColumnItem). item.name) in
    e ∙ sym (number_of-append-within names lists.measures.items c.args.name.now (omega (arith, e, len)))

pub returns-else-column-columns : goal.returns-else-column-columns
returns-else-column-columns c =
    let lists = c.args.lists.now in
    let names = map (λ (item : ColumnItem). item.name) lists.columns.items in
    let e = rw c.as_slice.ensures.value at c.column_number-column.ensures in
    let m = rw c.as_slice-else-column-columns.ensures.value at c.number_in.ensures.number in
    let len = length-map lists.columns.items (λ (item : ColumnItem). item.name) in
    let past : length names ≤ c.column_number-column.result = omega (arith, len) in
    let there = number_of-append-past names lists.measures.items c.args.name.now (rw e at past) in
    omega (arith, there, m, len)
