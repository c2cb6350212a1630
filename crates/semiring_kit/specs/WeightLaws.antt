-- The laws of the greatest and of the least weight: of each choice by itself, and of sums once.
use Rattle.std.specs.Prelude.{◌≡◌, ◌+◌, ◌≤◌, max, ℤ, pos, ◌+ℤ◌, unsigned_abs}
use Rattle.std.specs.Int.{int_max, int_min}
use Rattle.std.proofs.Common.{arith, refl}
use Rattle.std.proofs.lemmas.Int.{ints, clamps}
use Rattle.semiring_kit.specs.Semiring.{IsSemiring}
use Rattle.semiring_kit.specs.Chosen.{IsChoice}
use Rattle.semiring_kit.specs.ChosenLaws.{chosen_plus-IsSemiring}
use Rattle.semiring_kit.specs.MaxPlus.{max_plus}
use Rattle.semiring_kit.specs.MinPlus.{min_plus}

-- sums of weights

plus-associative : (a b c : ℤ) → (a +ℤ b) +ℤ c ≡ a +ℤ (b +ℤ c)
plus-associative a b c = omega (arith, ints)

plus-commutative : (a b : ℤ) → a +ℤ b ≡ b +ℤ a
plus-commutative a b = omega (arith, ints)

plus-identity : (a : ℤ) → pos 0 +ℤ a ≡ a
plus-identity a = omega (arith, ints)

plus-reach : (a b : ℤ) → unsigned_abs (a +ℤ b) ≤ unsigned_abs a + unsigned_abs b
plus-reach a b = omega (arith, ints)

-- a choice that sums of weights leave as it is
weights-IsChoice : (choose : ℤ → ℤ → ℤ)
    → ((a b c : ℤ) → choose (choose a b) c ≡ choose a (choose b c))
    → ((a b : ℤ) → choose a b ≡ choose b a)
    → ((a b c : ℤ) → a +ℤ choose b c ≡ choose (a +ℤ b) (a +ℤ c))
    → ((a b : ℤ) → unsigned_abs (choose a b) ≤ max (unsigned_abs a) (unsigned_abs b))
    → IsChoice (pos 0) ◌+ℤ◌ choose unsigned_abs
weights-IsChoice choose associative commutative distributes reach = record {
  choose_associative = associative;
  choose_commutative = commutative;
  plus_associative = plus-associative;
  plus_commutative = plus-commutative;
  plus_identity = plus-identity;
  distributes = distributes;
  nought_reach = refl;
  choose_reach = reach;
  plus_reach = plus-reach;
}

-- the greater

int_max-associative : (a b c : ℤ) → int_max (int_max a b) c ≡ int_max a (int_max b c)
int_max-associative a b c = omega (arith, ints, clamps)

int_max-commutative : (a b : ℤ) → int_max a b ≡ int_max b a
int_max-commutative a b = omega (arith, ints, clamps)

plus-int_max : (a b c : ℤ) → a +ℤ int_max b c ≡ int_max (a +ℤ b) (a +ℤ c)
plus-int_max a b c = omega (arith, ints, clamps)

int_max-reach : (a b : ℤ) → unsigned_abs (int_max a b) ≤ max (unsigned_abs a) (unsigned_abs b)
int_max-reach a b = omega (arith, ints, clamps)

pub max_plus-IsSemiring : IsSemiring max_plus
max_plus-IsSemiring =
    chosen_plus-IsSemiring
    (weights-IsChoice int_max int_max-associative int_max-commutative plus-int_max int_max-reach)

-- the lesser

int_min-associative : (a b c : ℤ) → int_min (int_min a b) c ≡ int_min a (int_min b c)
int_min-associative a b c = omega (arith, ints, clamps)

int_min-commutative : (a b : ℤ) → int_min a b ≡ int_min b a
int_min-commutative a b = omega (arith, ints, clamps)

plus-int_min : (a b c : ℤ) → a +ℤ int_min b c ≡ int_min (a +ℤ b) (a +ℤ c)
plus-int_min a b c = omega (arith, ints, clamps)

int_min-reach : (a b : ℤ) → unsigned_abs (int_min a b) ≤ max (unsigned_abs a) (unsigned_abs b)
int_min-reach a b = omega (arith, ints, clamps)

pub min_plus-IsSemiring : IsSemiring min_plus
min_plus-IsSemiring =
    chosen_plus-IsSemiring
    (weights-IsChoice int_min int_min-associative int_min-commutative plus-int_min int_min-reach)
