-- The states that a run goes through.
use Rattle.std.proofs.Common.{◌≡◌, ℕ, ◌+◌, ◌<◌, List, take, length, get_or}
use Rattle.std.proofs.lemmas.List.Sums.{fold_more}
use Rattle.shape_gen.specs.declared.mark.Mark.{Mark}
use Rattle.auto_monoid.specs.Auto.{PlainAuto}
use Rattle.gta_checked.specs.PlainRows.{PlainRows}
use Rattle.gta_checked.specs.Plain.{PlainPick}
use Rattle.gta_meaning.specs.Runs.{state_after_mark, state_reached}

pub state_reached-more : (rows : PlainRows) (automaton : PlainAuto) (picks : List PlainPick) (marks : List Mark)
    (i : ℕ) (d : Mark)
    → i < length marks
    → state_reached rows automaton picks (take (i + 1) marks)
    ≡ state_after_mark rows automaton picks (state_reached rows automaton picks (take i marks)) (get_or marks i d)
state_reached-more rows automaton picks marks i d below =
    fold_more (state_after_mark rows automaton picks) automaton.start marks i d below
