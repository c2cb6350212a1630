use Rattle.std.proofs.Common.{◌≡◌, map, refl}
use Rattle.std.proofs.lemmas.Simd.{map-map}
use Rattle.gta_checked.specs.declared.resolved.Table.{Table}
use Rattle.spec_tables.specs.Tables.{number_of}
use Rattle.gta_types.specs.Resolved.{TableNames, elements_in}
use Rattle.gta_types.specs.Lists.{names_of, environment_of}
use Rattle.gta_types.proofs.resolving.resolve_fold.Goals as goal

pub returns : goal.returns
returns c =
    let lists = c.args.lists.now in
    let number : c.table_number-table.result
    ≡ number_of (map (λ (table : Table). table.name) lists.tables.items) c.args.name.now =
    rw c.as_slice.ensures.value at c.table_number-table.ensures in
    let elements : c.elements_at-elements.result.now ≡ elements_in (environment_of lists).tables c.args.name.now =
    c.elements_at-elements.ensures.elements c.args.name.now number in
    let names : map (λ (table : TableNames). table.name) (map names_of lists.tables.items)
    ≡ map (λ (table : Table). table.name) lists.tables.items =
    map-map (λ (table : TableNames). table.name) names_of lists.tables.items in
    let picks = rw elements at c.in_ok-resolve_picks.ensures in
    let accept = rw elements at c.in_ok-numbers_of.ensures in
    rw (names, number, picks, accept) refl
