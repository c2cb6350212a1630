-- The marks that runs of neighbouring rows stand for.
use Rattle.std.specs.Prelude.{◌≡◌, ℕ, zero, suc, ◌≤◌, List, [], ◌∷◌, ◌++◌, length, Option, None, Some}
use Rattle.shape_gen.specs.declared.mark.Mark.{Mark}
use Rattle.mark_runs.specs.declared.run.Run.{Run}

-- so many rows, from row on, each with the label
abbrev pub neighbours : ℕ → ℕ → ℕ → List Mark
neighbours row zero label = []
neighbours row (suc count) label = record { row = row; label = label } ∷ neighbours (suc row) count label

abbrev pub marks_of_run : Run → List Mark
marks_of_run run = neighbours run.row run.count run.label

abbrev pub first_mark : Run → Mark
first_mark run = record { row = run.row; label = run.label }

-- the marks of a run that may be missing
abbrev pub marks_of_front : Option Run → List Mark
marks_of_front None = []
marks_of_front (Some run) = marks_of_run run

-- the marks of all runs, one after another
abbrev pub marks_of_runs : List Run → List Mark
marks_of_runs [] = []
marks_of_runs (run ∷ runs) = marks_of_run run ++ marks_of_runs runs

-- the marks are this many, and not more than are counted
pub record IsCounted (count : ℕ) (marks : List Mark) : Type 0 where
  pub is : count ≡ length marks
  pub few : count ≤ 9223372036854775807
