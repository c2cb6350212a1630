-- The greatest weight: a sum is the greater weight, and a product adds the weights.
use Rattle.std.specs.Prelude.{ℤ, pos, ◌+ℤ◌, Option, unsigned_abs}
use Rattle.std.specs.Int.{int_max}
use Rattle.semiring_kit.specs.Semiring.{SemiringOn}
use Rattle.semiring_kit.specs.Chosen.{chosen_plus}

-- None is no weight, below each weight
abbrev pub max_plus : SemiringOn (Option ℤ)
max_plus = chosen_plus (pos 0) ◌+ℤ◌ int_max unsigned_abs
