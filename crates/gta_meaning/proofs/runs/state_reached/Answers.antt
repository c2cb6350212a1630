use Rattle.std.proofs.Common.{get_or, map, sym, ap, ◌∙◌}
use Rattle.auto_monoid.specs.AutoOf.{plain_auto}
use Rattle.shape_gen.specs.Candidates.{mark}
use Rattle.gta_checked.specs.Plain.{plain_pick}
use Rattle.gta_checked.specs.PlainRows.{plain_rows}
use Rattle.gta_meaning.specs.Runs.{state_after_mark}
use Rattle.gta_meaning.proofs.Reached.{state_reached-more}
use Rattle.gta_meaning.proofs.runs.state_reached.Goals as goal

pub loop-mark-preserved : goal.loop-mark-preserved
loop-mark-preserved c =
    let rows = plain_rows c.args.rows.now in
    let automaton = plain_auto c.args.automaton.now in
    let picks = map plain_pick c.args.picks.now in
    record {
      so_far = c.state_after_mark-state.ensures.after
          ∙ ap (λ state. state_after_mark rows automaton picks state
          (get_or c.args.marks.now c.loop-mark.mark-index (mark 0 0))) c.loop-mark.invariant.so_far
          ∙ sym (state_reached-more rows automaton picks c.args.marks.now c.loop-mark.mark-index (mark 0 0)
          c.loop-mark-test.true);
      is_state = c.state_after_mark-state.ensures.is_state;
    }
