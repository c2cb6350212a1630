use Rattle.std.proofs.Common.{◌≡◌, ◌+◌, ◌-◌, ◌/◌, ◌++◌, List, length, ap, ◌∙◌, arith}
use Rattle.shape_gen.specs.declared.mark.Mark.{Mark}
use Rattle.shape_gen.specs.Candidates.{sublists}
use Rattle.gta_meaning.proofs.ByNumber.{sublists-halves-at, sublist-without-at, sublist-with-at, further}
use Rattle.gta_meaning.proofs.numbered.push_sublist.Goals as goal
use Rattle.gta_meaning.proofs.numbered.push_sublist.Goals.{then-number-behind+in_ok-push, else-number-behind}

pub loop-row-preserved : goal.loop-row-preserved
loop-row-preserved c =
    let rows = c.args.rows in
    let row = c.loop-row.row in
    let halves = sublists-halves-at rows row c.loop-row-test.true in
    let half : c.loop-row.behind / 2 ≡ length (sublists (row + 1) (rows - (row + 1))) =
    omega (arith, halves, c.loop-row.invariant.behind) in
    elim c.if-number-behind.branch [
      | then-number-behind+in_ok-push w ↦ (
          let past = rw half at w.if-number-behind.true in
          let at = sublist-with-at rows row c.loop-row-test.true c.loop-row.number past
          (omega (arith, c.loop-row.invariant.in_range, c.loop-row.invariant.behind)) in
          let moved : c.if-number-behind.number ≡ c.loop-row.number - length (sublists (row + 1) (rows - (row + 1))) =
          w.number-is ∙ ap (λ k. c.loop-row.number - k) half in
          record {
            behind = half;
            in_range = omega (
              arith,
              w.number-is,
              half,
              halves,
              c.loop-row.invariant.behind,
              c.loop-row.invariant.in_range,
            );
            so_far = rw (w.marks-is, w.in_ok-push.ensures.items, moved)
                (further _ _ _ _ _ c.loop-row.invariant.so_far at);
          })
      | else-number-behind w ↦ (
          let below = rw half at w.if-number-behind.false in
          let at = sublist-without-at rows row c.loop-row-test.true c.loop-row.number below in
          record {
            behind = half;
            in_range = rw w.number-is w.if-number-behind.false;
            so_far = rw (w.marks-is, w.number-is)
                (c.loop-row.invariant.so_far ∙ ap (λ (ms : List Mark). c.loop-row.marks.items ++ ms) at);
          })
    ]
