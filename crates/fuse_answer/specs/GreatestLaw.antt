-- The sum of weights of which the greatest is taken is the greatest total.
use Rattle.std.proofs.Common.{◌≡◌, ℕ, ℤ, List, [], ◌∷◌, Some, refl, ap, ◌∙◌, arith}
use Rattle.std.specs.Int.{int_max}
use Rattle.std.proofs.lemmas.Int.{ints, clamps}
use Rattle.semiring_kit.specs.Aggregates as aggregates
use Rattle.semiring_kit.specs.Aggregates.{sum_over}
use Rattle.semiring_kit.specs.MaxPlus.{max_plus}
use Rattle.semiring_kit.proofs.KitSums.{sum_is_greatest}
use Rattle.gta_checked.specs.Plain.{PlainChecked}
use Rattle.gta_checked.specs.PlainRows.{PlainRows}
use Rattle.gta_meaning.specs.Answers.{greatest, greatest_of, totals}
use Rattle.gta_meaning.specs.Kept.{kept}
use Rattle.fuse_answer.specs.TotalLaws.{chosen-fold, kept-totals}
use Rattle.fuse_answer.specs.Weighed.{value_at}

greatest-is : (ws : List ℤ) → aggregates.greatest ws ≡ greatest_of ws
greatest-is [] = refl
greatest-is (w ∷ ws) = chosen-fold int_max (λ a b c. omega (arith, ints, clamps)) w ws

pub sum-is_greatest : (measure : ℕ) (checked : PlainChecked) (rows : PlainRows)
    → sum_over max_plus (λ mark weight. Some weight) (value_at checked rows measure) (kept checked rows)
    ≡ greatest checked rows measure
sum-is_greatest measure checked rows =
    sum_is_greatest (value_at checked rows measure) (kept checked rows)
    ∙ ap aggregates.greatest (kept-totals checked rows measure)
    ∙ greatest-is (totals checked rows measure)
