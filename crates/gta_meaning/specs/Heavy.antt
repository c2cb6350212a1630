-- The first row at which the weights of the aggregate's measures could add up past the bound.
use Rattle.std.specs.Prelude.{ℕ, ◌+◌, max, nat_abs, Bool, nat_lt, List, [], ◌∷◌, map, sum, Option}
use Rattle.std.specs.List.{find, fold, range_with_len}
use Rattle.gta_text.specs.declared.numbers.TheConstants.{NUMBER_BOUND}
use Rattle.gta_checked.specs.PlainRows.{PlainRows}
use Rattle.gta_checked.specs.declared.resolved.Goal.{Goal}
use Rattle.gta_checked.specs.declared.resolved.Goal.TheVariants.{Count, Any, Max, Min, Best, Ranked}
use Rattle.gta_checked.specs.declared.resolved.Rank.{Rank}
use Rattle.gta_checked.specs.Plain.{PlainChecked}
use Rattle.gta_meaning.specs.InRange.{label_count}
use Rattle.gta_meaning.specs.Values.{value}

-- the measures of ranks
abbrev pub rank_measures : List Rank → List ℕ
rank_measures ranks = map (λ rank. rank.measure) ranks

-- the measures of an aggregate
abbrev pub goal_measures : Goal → List ℕ
goal_measures Count = []
goal_measures Any = []
goal_measures (Max measure) = measure ∷ []
goal_measures (Min measure) = measure ∷ []
goal_measures (Best k greatest measure) = measure ∷ []
goal_measures (Ranked k ranks) = rank_measures ranks

-- the absolute values of a measure at a row, label by label
abbrev pub sizes : PlainChecked → PlainRows → ℕ → ℕ → List ℕ
sizes checked rows measure row =
    map (λ label. nat_abs (value checked rows measure row label))
    (range_with_len 0 (label_count checked))

-- the greatest of them
abbrev pub measure_weight : PlainChecked → PlainRows → ℕ → ℕ → ℕ
measure_weight checked rows row measure = fold max 0 (sizes checked rows measure row)

-- the greatest of any of the measures
abbrev pub row_weight : PlainChecked → PlainRows → List ℕ → ℕ → ℕ
row_weight checked rows measures row = fold max 0 (map (measure_weight checked rows row) measures)

-- the weights of the first rows, added up
abbrev pub weight_of_rows : PlainChecked → PlainRows → List ℕ → ℕ → ℕ
weight_of_rows checked rows measures count =
    sum (map (row_weight checked rows measures) (range_with_len 0 count))

-- the rows up to this one and with it weigh more than the bound
abbrev pub is_heavy : PlainChecked → PlainRows → List ℕ → ℕ → Bool
is_heavy checked rows measures row =
    nat_lt NUMBER_BOUND (weight_of_rows checked rows measures (row + 1))

-- the first such row
abbrev pub first_past : PlainChecked → PlainRows → List ℕ → Option ℕ
first_past checked rows measures = find (is_heavy checked rows measures) (range_with_len 0 rows.count)

-- the first heavy row of the aggregate's measures; rows weigh nothing where it has none
abbrev pub first_heavy : PlainChecked → PlainRows → Option ℕ
first_heavy checked rows = first_past checked rows (goal_measures checked.goal)
