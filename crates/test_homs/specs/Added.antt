-- What is added up over a candidate's marks.
use Rattle.std.specs.Prelude.{ℕ, ◌<◌, ℤ, pos}
use Rattle.gta_checked.specs.PlainRows.{PlainRows}
use Rattle.gta_checked.specs.Plain.{PlainChecked}
use Rattle.gta_meaning.specs.Values.{value}
use Rattle.test_homs.specs.declared.added.Added.{Added}
use Rattle.test_homs.specs.declared.added.Added.TheVariants.{Measure, One}

-- the value of the measure at a row with a label, or one for each mark
abbrev pub added_at : PlainChecked → PlainRows → Added → ℕ → ℕ → ℤ
added_at checked rows (Measure measure) row label = value checked rows measure row label
added_at checked rows One row label = pos 1

-- the measure is one of so many
abbrev pub IsAddedWithin : ℕ → Added → Type 0
IsAddedWithin measures (Measure measure) = measure < measures
IsAddedWithin measures One = Unit {0}
