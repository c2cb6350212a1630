-- When a candidate's marks are ones that a table and a specification have.
use Rattle.std.specs.Prelude.{◌≡◌, ℕ, ◌<◌, max, List, length, map, All}
use Rattle.std.specs.List.Sorted.{IsStrictlyIncreasing}
use Rattle.shape_gen.specs.declared.mark.Mark.{Mark}
use Rattle.gta_checked.specs.PlainRows.{PlainRows}
use Rattle.gta_checked.specs.Plain.{PlainChecked}

-- the number of labels that a mark may have: 1 where none are declared
abbrev pub label_count : PlainChecked → ℕ
label_count checked = max 1 (length checked.labels)

-- the rows have a cell for each declared column
abbrev pub HasColumnsOf : PlainChecked → PlainRows → Type 0
HasColumnsOf checked rows = rows.columns ≡ length checked.columns

pub record IsMarkInRange (rows labels : ℕ) (mark : Mark) : Type 0 where
  pub row : mark.row < rows
  pub label : mark.label < labels

-- each mark has a row and a label, and the rows ascend strictly
pub record IsInRange (rows labels : ℕ) (marks : List Mark) : Type 0 where
  pub each : All (IsMarkInRange rows labels) marks
  pub ascending : IsStrictlyIncreasing (map (λ mark. mark.row) marks)

-- each mark has a row of the table and a label of the specification, and the rows ascend strictly
abbrev pub IsInRangeOf : PlainChecked → PlainRows → List Mark → Type 0
IsInRangeOf checked rows marks = IsInRange rows.count (label_count checked) marks
