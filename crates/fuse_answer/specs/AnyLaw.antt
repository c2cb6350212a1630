-- The sum of truths is whether a candidate passes.
use Rattle.std.proofs.Common.{◌≡◌, ℤ, List, [], ◌∷◌, length, nat_lt, refl, ◌∙◌, arith}
use Rattle.shape_gen.specs.declared.mark.Mark.{Mark}
use Rattle.semiring_kit.specs.Aggregates.{has_item, sum_over}
use Rattle.semiring_kit.specs.Truth.{truth, truth_of_mark}
use Rattle.semiring_kit.proofs.KitSums.{sum_tells}
use Rattle.gta_checked.specs.Plain.{PlainChecked}
use Rattle.gta_checked.specs.PlainRows.{PlainRows}
use Rattle.gta_meaning.specs.Answers.{any}
use Rattle.gta_meaning.specs.Kept.{kept}

has_item-some : {X : Type 0} (xs : List X) → has_item xs ≡ nat_lt 0 (length xs)
has_item-some [] = refl
has_item-some (x ∷ xs) = grind arith

pub sum-is_any : (weight : Mark → ℤ) (checked : PlainChecked) (rows : PlainRows)
    → sum_over truth truth_of_mark weight (kept checked rows) ≡ any checked rows
sum-is_any weight checked rows = sum_tells weight (kept checked rows) ∙ has_item-some (kept checked rows)
