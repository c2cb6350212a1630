-- Counts that stop at a cap: a sum or product past the cap is the cap.
use Rattle.std.specs.Prelude.{ℕ, ◌+◌, ◌*◌, ◌≤◌, min, ℤ}
use Rattle.shape_gen.specs.declared.mark.Mark.{Mark}
use Rattle.semiring_kit.specs.Semiring.{SemiringOn}

-- the counts from 0 to a cap, which keep no weight
abbrev pub capped : ℕ → SemiringOn ℕ
capped cap = record {
  zero = 0;
  one = 1;
  add = λ a b. min (a + b) cap;
  mul = λ a b. min (a * b) cap;
  is_sound = λ a. a ≤ cap;
  reach = λ a. 0;
}

-- the greatest count
abbrev pub count_cap : ℕ
count_cap = 18446744073709551615

abbrev pub count : SemiringOn ℕ
count = capped count_cap

-- a mark counts once
abbrev pub count_of_mark : Mark → ℤ → ℕ
count_of_mark mark weight = 1
