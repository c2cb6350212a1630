-- The laws of sums that stop one past a bound.
use Rattle.std.specs.Prelude.{◌≡◌, ℕ, ◌+◌, ◌<◌}
use Rattle.std.proofs.Common.{arith}
use Rattle.monoid_kit.specs.Monoid.{IsMonoid}
use Rattle.monoid_kit.specs.CappedSum.{capped_sum}

module _ (bound : ℕ) where
  capped_sum-is_element : (a b : ℕ) → a < bound + 2 → b < bound + 2 → capped_sum bound a b < bound + 2
  capped_sum-is_element a b a_in b_in = omega arith

  capped_sum-left_identity : (a : ℕ) → a < bound + 2 → capped_sum bound 0 a ≡ a
  capped_sum-left_identity a a_in = omega arith

  capped_sum-right_identity : (a : ℕ) → a < bound + 2 → capped_sum bound a 0 ≡ a
  capped_sum-right_identity a a_in = omega arith

  capped_sum-associative : (a b c : ℕ) → a < bound + 2 → b < bound + 2 → c < bound + 2
      → capped_sum bound (capped_sum bound a b) c ≡ capped_sum bound a (capped_sum bound b c)
  capped_sum-associative a b c a_in b_in c_in = omega arith

  pub capped_sum-IsMonoid : IsMonoid (bound + 2) 0 (capped_sum bound)
  capped_sum-IsMonoid = record {
    unit_is_element = omega arith;
    product_is_element = capped_sum-is_element;
    left_identity = capped_sum-left_identity;
    right_identity = capped_sum-right_identity;
    associative = capped_sum-associative;
  }
