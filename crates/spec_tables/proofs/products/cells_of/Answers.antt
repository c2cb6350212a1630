use Rattle.std.proofs.Common.{◌≡◌, ◌<◌, ◌++◌, List, ℕ, None, Some, map, length, get_or, sym, ap, ◌∙◌}
use Rattle.gta_spec.specs.Parts.{part_tree, table_tree, times_tree}
use Rattle.spec_tables.specs.Tables.{row_of}
use Rattle.spec_tables.proofs.Rows.{not_square_here, square_further, cells_further}
use Rattle.spec_tables.proofs.Lines.{row_on-lines_of}
use Rattle.spec_tables.proofs.products.cells_of.Goals as goal

pub returns-in-None : goal.returns-in-None
returns-in-None c =
    let parts = map part_tree c.args.parts.now in
    let table = table_tree c.args.table.now in
    let same = c.deref-element-items.ensures.value in
    let below : c.loop-number.number < length table.elements = rw same at c.loop-number-test.true in
    let is : c.element-item.result ≡ get_or table.elements c.loop-number.number c.element-item.result =
    rw same at c.element-item.is in
    let known = row_on-lines_of (map (λ line. times_tree line.now) c.as_slice.result.now) parts table
    c.element-item.result
    (ap (map (λ line. times_tree line.now)) c.as_slice.ensures.value ∙ c.in_ok-lines.ensures) in
    let none : row_of parts table c.element-item.result ≡ None =
    sym known ∙ rw c.in-None.is at (sym c.in_ok-row.ensures) in (
      below,
      not_square_here parts table c.loop-number.number c.element-item.result below is
          c.loop-number.invariant.square none,
    )

pub loop-number-preserved : goal.loop-number-preserved
loop-number-preserved c =
    let parts = map part_tree c.args.parts.now in
    let table = table_tree c.args.table.now in
    let same = c.deref-element-items.ensures.value in
    let below : c.loop-number.number < length table.elements = rw same at c.loop-number-test.true in
    let is : c.element-item.result ≡ get_or table.elements c.loop-number.number c.element-item.result =
    rw same at c.element-item.is in
    let known = row_on-lines_of (map (λ line. times_tree line.now) c.as_slice.result.now) parts table
    c.element-item.result
    (ap (map (λ line. times_tree line.now)) c.as_slice.ensures.value ∙ c.in_ok-lines.ensures) in
    let there : row_of parts table c.element-item.result ≡ Some c.in-Some.row.items =
    sym known ∙ rw c.in-Some.is at (sym c.in_ok-row.ensures) in
    record {
      square = square_further parts table c.loop-number.number c.element-item.result below is
          c.loop-number.invariant.square c.in-Some.row.items there;
      so_far = c.in_ok-extend_from_slice-in-Some.ensures.items
          ∙ ap (λ (ys : List ℕ). c.loop-number.cells.items ++ ys) c.deref.ensures.value
          ∙ cells_further parts table c.loop-number.number c.element-item.result below is
          c.loop-number.invariant.square c.in-Some.row.items c.loop-number.cells.items there
          c.loop-number.invariant.so_far;
    }
