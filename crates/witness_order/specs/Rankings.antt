-- Rankings: total orders in which only equal values tie, and products that keep them.
use Rattle.std.specs.Prelude.{◌≡◌}
use Rattle.std.specs.Cmp.{IsTotalOrder}
use Rattle.std.specs.declared.cmp.Ordering.{Ordering}
use Rattle.std.specs.declared.cmp.Ordering.TheVariants.{Equal}

-- a total order in which only equal values tie
pub record IsRanking {E : Type 0} (cmp : E → E → Ordering) : Type 0 where
  pub total : IsTotalOrder cmp
  pub same : (x y : E) → cmp x y ≡ Equal → x ≡ y

-- an associative product with a unit, which leaves two values in their order where both get the same factor,
-- on the left or on the right
pub record KeepsRanking {E : Type 0} (cmp : E → E → Ordering) (unit : E) (mul : E → E → E) : Type 0 where
  pub left_identity : (x : E) → mul unit x ≡ x
  pub right_identity : (x : E) → mul x unit ≡ x
  pub associative : (x y z : E) → mul (mul x y) z ≡ mul x (mul y z)
  pub keeps_left : (x y z : E) → cmp (mul x y) (mul x z) ≡ cmp y z
  pub keeps_right : (x y z : E) → cmp (mul x z) (mul y z) ≡ cmp x y
