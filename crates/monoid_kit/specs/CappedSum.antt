-- Sums that stop one past a bound, so that a sum tells whether it is within the bound.
use Rattle.std.specs.Prelude.{ℕ, ◌+◌, min}

-- the sum of a and b, or one past the bound where the sum is past the bound
abbrev pub capped_sum : ℕ → ℕ → ℕ → ℕ
capped_sum bound a b = min (a + b) (bound + 1)
