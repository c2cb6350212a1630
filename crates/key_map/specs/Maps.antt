-- Maps from keys to values as what they stand for: a value at each number, whatever keeps them.
use Rattle.std.specs.Prelude.{◌≡◌, ℕ, ◌+◌, ◌≤◌, nat_eq}
use Rattle.semiring_kit.specs.Semiring.{SemiringOn, weight_bound}
use Rattle.semiring_kit.specs.Total.{masked}

-- zero at each key
abbrev pub nothing : {E : Type 0} → SemiringOn E → ℕ → E
nothing r k = r.zero

-- the element at the key, and zero elsewhere
abbrev pub alone : {E : Type 0} → SemiringOn E → ℕ → E → ℕ → E
alone r key elem k = masked r (nat_eq key k) elem

-- the sums, key by key
abbrev pub sums : {E : Type 0} → SemiringOn E → (ℕ → E) → (ℕ → E) → ℕ → E
sums r x y k = r.add (x k) (y k)

-- the same value at each key
abbrev pub SameValues : {E : Type 0} → (ℕ → E) → (ℕ → E) → Type 0
SameValues x y = (k : ℕ) → x k ≡ y k

-- a value on the left and a value on the right reach, together, no further than the bound
abbrev pub ReachesAddUp : {E : Type 0} → SemiringOn E → (ℕ → E) → (ℕ → E) → Type 0
ReachesAddUp r x y = (j k : ℕ) → r.reach (x j) + r.reach (y k) ≤ weight_bound
