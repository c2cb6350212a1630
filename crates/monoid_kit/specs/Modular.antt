-- Sums of remainders.
use Rattle.std.specs.Prelude.{ℕ, ◌+◌, ◌%◌}

-- the remainder of the sum of a and b by the modulus
abbrev pub modular_sum : ℕ → ℕ → ℕ → ℕ
modular_sum modulus a b = (a + b) % modulus
