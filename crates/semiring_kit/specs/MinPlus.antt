-- The least weight: a sum is the lesser weight, and a product adds the weights.
use Rattle.std.specs.Prelude.{ℤ, pos, ◌+ℤ◌, Option, unsigned_abs}
use Rattle.std.specs.Int.{int_min}
use Rattle.semiring_kit.specs.Semiring.{SemiringOn}
use Rattle.semiring_kit.specs.Chosen.{chosen_plus}

-- None is no weight, above each weight
abbrev pub min_plus : SemiringOn (Option ℤ)
min_plus = chosen_plus (pos 0) ◌+ℤ◌ int_min unsigned_abs
