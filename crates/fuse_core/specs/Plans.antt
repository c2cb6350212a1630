-- What contracts see of a plan, and the sum over the accepted candidates.
use Rattle.std.specs.Prelude.{ℕ, Bool, false, List, filter, slice_index_or}
use Rattle.semiring_kit.specs.Semiring.{SemiringOn}
use Rattle.semiring_kit.specs.Total.{total}
use Rattle.shape_gen.specs.declared.mark.Mark.{Mark}
use Rattle.shape_gen.specs.declared.shape.Shape.{Shape}
use Rattle.fuse_core.specs.declared.letter.Letter.{Letter}

-- a shape over rows and labels, the kit of its maps, and a letter for each row and label
pub record Planned (K E : Type 0) : Type 0 where
  pub shape : Shape
  pub rows : ℕ
  pub labels : ℕ
  pub kit : K
  pub letters : List (Letter E)

-- whether a key is accepted
abbrev pub accepts : List Bool → ℕ → Bool
accepts accept key = slice_index_or accept key false

-- the sum of the weights of those lists whose keys are accepted
abbrev pub accepted_sum : {E : Type 0} → SemiringOn E → (List Mark → ℕ) → (List Mark → E) → List Bool
    → List (List Mark) → E
accepted_sum r key weight accept lists = total r weight (filter (λ c. accepts accept (key c)) lists)
