-- The state that an automaton reaches.
use Rattle.std.specs.Prelude.{ℕ, List, Option, Some, None}
use Rattle.std.specs.List.{find, fold}
use Rattle.shape_gen.specs.declared.mark.Mark.{Mark}
use Rattle.auto_monoid.specs.Auto.{PlainAuto, move}
use Rattle.gta_checked.specs.PlainRows.{PlainRows}
use Rattle.gta_checked.specs.Plain.{PlainPick}
use Rattle.gta_meaning.specs.Values.{holds}

-- the state to which the letter of a pick leads; where there is no pick the state stays
abbrev pub moved_by : PlainAuto → ℕ → Option PlainPick → ℕ
moved_by automaton state None = state
moved_by automaton state (Some pick) = move automaton pick.element state

-- the state after a mark: its letter is that of the first pick whose condition holds
abbrev pub state_after_mark : PlainRows → PlainAuto → List PlainPick → ℕ → Mark → ℕ
state_after_mark rows automaton picks state mark =
    moved_by automaton state (find (λ pick. holds rows mark.row mark.label pick.cond) picks)

-- the state that the marks, from left to right, reach from the start
abbrev pub state_reached : PlainRows → PlainAuto → List PlainPick → List Mark → ℕ
state_reached rows automaton picks marks = fold (state_after_mark rows automaton picks) automaton.start marks
