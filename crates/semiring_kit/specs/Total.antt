-- Sums in a semiring.
use Rattle.std.specs.Prelude.{ℕ, Bool, List}
use Rattle.monoid_kit.specs.Product.{product_by, only}
use Rattle.monoid_kit.specs.Keyed.{keyed}
use Rattle.semiring_kit.specs.Semiring.{SemiringOn}

-- the sum of what f gives at the items
abbrev pub total : {E X : Type 0} → SemiringOn E → (X → E) → List X → E
total r f xs = product_by r.zero r.add f xs

-- the element where the test holds, and else zero
abbrev pub masked : {E : Type 0} → SemiringOn E → Bool → E → E
masked r test a = only r.zero test a

-- the sum of what f gives at the items whose key is k
abbrev pub total_at_key : {E X : Type 0} → SemiringOn E → (X → ℕ) → (X → E) → List X → ℕ → E
total_at_key r key f xs k = keyed r.zero r.add key f xs k
