-- Whether there is any: a sum holds where either part does, and a product where both do.
use Rattle.std.specs.Prelude.{Bool, true, false, ◌||◌, ◌&&◌, ℤ}
use Rattle.shape_gen.specs.declared.mark.Mark.{Mark}
use Rattle.semiring_kit.specs.Semiring.{SemiringOn}

-- truth values, which keep no weight
abbrev pub truth : SemiringOn Bool
truth = record {
  zero = false;
  one = true;
  add = λ a b. a || b;
  mul = λ a b. a && b;
  is_sound = λ a. Unit {0};
  reach = λ a. 0;
}

-- a mark holds
abbrev pub truth_of_mark : Mark → ℤ → Bool
truth_of_mark mark weight = true
