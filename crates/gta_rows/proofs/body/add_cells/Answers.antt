use Rattle.std.proofs.Common.{◌≡◌, ◌∙◌, ℤ, List, [], ◌∷◌, ◌++◌, length, take, get_or, not, is_some}
use Rattle.std.proofs.Common.{true, Option, append_assoc, sym, ap, arith}
use Rattle.std.specs.Prelude.{IsTrue, option_to_list}
use Rattle.std.specs.List.{filter_map}
use Rattle.std.proofs.lemmas.List.{length-append}
use Rattle.gta_rows.specs.Fields.{trimmed_fields, cell_at, has_no_cell}
use Rattle.gta_rows.proofs.Places.{at_get, place_more, place_here}
use Rattle.gta_rows.proofs.Firsts.{one_made}
use Rattle.gta_rows.proofs.Cells.{the_cell, within_more}
use Rattle.gta_rows.proofs.Bodies.{a_position}
use Rattle.gta_rows.proofs.body.add_cells.Goals as goal

pub returns-then-not-branch-clause-bad : goal.returns-then-not-branch-clause-bad
returns-then-not-branch-clause-bad c =
    let fields = trimmed_fields c.args.row.now in
    sym (a_position (has_no_cell fields) c.args.columns.now c.loop-column.column
    (place_here (has_no_cell fields) c.args.columns.now c.loop-column.column c.loop-column.invariant.so_far
    (at_get (has_no_cell fields) c.args.columns.now c.loop-column.column 0 c.loop-column-test.true
    ∙ ap not (sym c.in_ok-add_cell.ensures.found ∙ c.if-not-branch.true)))
    c.loop-column-test.true)

pub loop-column-preserved : goal.loop-column-preserved
loop-column-preserved c =
    let fields = trimmed_fields c.args.row.now in
    let place = get_or c.args.columns.now c.loop-column.column 0 in
    let added = c.in_ok-add_cell.ensures in
    let before = c.loop-column.invariant in
    let found : is_some (cell_at fields place) ≡ true = sym added.found ∙ c.if-not-branch.false in
    let there = the_cell (cell_at fields place) found in
    let kept : IsTrue c.args.keep → c.add_cell.new.cells.items ≡ c.loop-column.cells.items ++ there.0 ∷ [] =
    λ keep. added.kept keep ∙ ap (λ (o : Option ℤ). c.loop-column.cells.items ++ option_to_list o) there.1 in
    record {
      so_far = place_more (has_no_cell fields) c.args.columns.now c.loop-column.column
          c.loop-column-test.true before.so_far
          (at_get (has_no_cell fields) c.args.columns.now c.loop-column.column 0 c.loop-column-test.true
          ∙ ap not found);
      cells = λ keep. kept keep ∙ ap (λ (xs : List ℤ). xs ++ there.0 ∷ []) (before.cells keep)
          ∙ append_assoc c.args.cells.now.items
          (filter_map (cell_at fields) (take c.loop-column.column c.args.columns.now)) (there.0 ∷ [])
          ∙ ap (λ (xs : List ℤ). c.args.cells.now.items ++ xs)
          (sym (one_made (cell_at fields) c.args.columns.now c.loop-column.column 0
          there.0 c.loop-column-test.true there.1));
      count = λ keep. omega (
        arith,
        ap (λ (xs : List ℤ). length xs)
            (kept keep),
        length-append c.loop-column.cells.items (there.0 ∷ []),
        before.count keep,
      );
      within = λ all. within_more c.args.keep c.loop-column.cells.items c.add_cell.new.cells.items fields place
          added.kept added.passed (before.within all);
    }
