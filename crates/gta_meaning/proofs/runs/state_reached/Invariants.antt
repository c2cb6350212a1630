use Rattle.std.proofs.Common.{◌≡◌, ◌<◌, take, map}
use Rattle.auto_monoid.specs.AutoOf.{plain_auto}
use Rattle.gta_checked.specs.Plain.{plain_pick}
use Rattle.gta_checked.specs.PlainRows.{plain_rows}
use Rattle.gta_meaning.specs.Runs.{state_reached}
use Rattle.gta_meaning.proofs.runs.state_reached.Given as goal

-- the state that the marks so far reach
abbrev pub invariant-loop-mark : goal.invariant-loop-mark
invariant-loop-mark l = record {
  so_far : l.state
      ≡ state_reached (plain_rows l.rows) (plain_auto l.automaton) (map plain_pick l.picks) (take l.mark-index l.marks);
  is_state : l.state < l.automaton.states;
}
