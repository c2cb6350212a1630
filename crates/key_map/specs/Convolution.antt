-- The convolution of maps from keys to values of a semiring.
use Rattle.std.specs.Prelude.{ℕ, nat_eq}
use Rattle.std.specs.List.{filter, range_with_len}
use Rattle.monoid_kit.specs.Items.{pairs}
use Rattle.semiring_kit.specs.Semiring.{SemiringOn}
use Rattle.semiring_kit.specs.Total.{total}

-- at m, the sum over all keys a and b with a * b = m of x(a) * y(b); the keys are the numbers below the size
unfoldable pub convolution : {E : Type 0} → SemiringOn E → ℕ → (ℕ → ℕ → ℕ) → (ℕ → E) → (ℕ → E) → ℕ → E
convolution r size times x y m =
    let keys = range_with_len 0 size in
    total r (λ p. r.mul (x p.0) (y p.1)) (filter (λ p. nat_eq (times p.0 p.1) m) (pairs keys keys))
