-- Which measures a question looks at, and what a mark weighs by one of them.
use Rattle.std.specs.Prelude.{ℕ, ℤ, List}
use Rattle.monoid_kit.specs.Items.{IsIn}
use Rattle.shape_gen.specs.declared.mark.Mark.{Mark}
use Rattle.gta_checked.specs.PlainRows.{PlainRows}
use Rattle.gta_checked.specs.Plain.{PlainChecked}
use Rattle.gta_checked.specs.declared.resolved.Goal.{Goal}
use Rattle.gta_meaning.specs.Heavy.{goal_measures}
use Rattle.gta_meaning.specs.Values.{value}

-- they are measures of the aggregate, for which the rows were weighed
abbrev pub AreWeighed : List ℕ → Goal → Type 0
AreWeighed measures goal = (measure : ℕ) → IsIn measure measures → IsIn measure (goal_measures goal)

-- the value of a measure at a mark
abbrev pub value_at : PlainChecked → PlainRows → ℕ → Mark → ℤ
value_at checked rows measure mark = value checked rows measure mark.row mark.label
