-- The sum of weights of which the least is taken is the least total.
use Rattle.std.proofs.Common.{◌≡◌, ℕ, ℤ, List, [], ◌∷◌, Some, refl, ap, ◌∙◌, arith}
use Rattle.std.specs.Int.{int_min}
use Rattle.std.proofs.lemmas.Int.{ints, clamps}
use Rattle.semiring_kit.specs.Aggregates as aggregates
use Rattle.semiring_kit.specs.Aggregates.{sum_over}
use Rattle.semiring_kit.specs.MinPlus.{min_plus}
use Rattle.semiring_kit.proofs.KitSums.{sum_is_least}
use Rattle.gta_checked.specs.Plain.{PlainChecked}
use Rattle.gta_checked.specs.PlainRows.{PlainRows}
use Rattle.gta_meaning.specs.Answers.{least, least_of, totals}
use Rattle.gta_meaning.specs.Kept.{kept}
use Rattle.fuse_answer.specs.TotalLaws.{chosen-fold, kept-totals}
use Rattle.fuse_answer.specs.Weighed.{value_at}

least-is : (ws : List ℤ) → aggregates.least ws ≡ least_of ws
least-is [] = refl
least-is (w ∷ ws) = chosen-fold int_min (λ a b c. omega (arith, ints, clamps)) w ws

pub sum-is_least : (measure : ℕ) (checked : PlainChecked) (rows : PlainRows)
    → sum_over min_plus (λ mark weight. Some weight) (value_at checked rows measure) (kept checked rows)
    ≡ least checked rows measure
sum-is_least measure checked rows =
    sum_is_least (value_at checked rows measure) (kept checked rows)
    ∙ ap aggregates.least (kept-totals checked rows measure)
    ∙ least-is (totals checked rows measure)
