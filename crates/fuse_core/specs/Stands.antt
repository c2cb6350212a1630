-- What a map shows of a list of candidates, and when a tuple of maps stands for an interval.
use Rattle.std.specs.Prelude.{◌≡◌, ℕ, List, [], ◌∷◌}
use Rattle.semiring_kit.specs.Semiring.{SemiringOn}
use Rattle.semiring_kit.specs.Total.{total_at_key}
use Rattle.shape_gen.specs.declared.mark.Mark.{Mark}
use Rattle.shape_gen.specs.declared.shape.Shape.{Shape}
use Rattle.shape_gen.specs.Parts.{Component, components, part}

-- at each key, the value is the sum of the weights of those lists that have this key
abbrev pub ShowsSums : {E : Type 0} → SemiringOn E → (List Mark → ℕ) → (List Mark → E) → List (List Mark) → (ℕ → E)
    → Type 0
ShowsSums r key weight lists value_at = (m : ℕ) → value_at m ≡ total_at_key r key weight lists m

-- a map fits its kit and shows the sums of the lists
pub record Shows {E M : Type 0} (r : SemiringOn E) (key : List Mark → ℕ) (weight : List Mark → E) (fits : M → Type 0)
    (value_at : M → ℕ → E) (lists : List (List Mark)) (map : M) : Type 0 where
  pub fits_kit : fits map
  pub sums : ShowsSums r key weight lists (value_at map)

-- there is one map for each component, of which P holds
abbrev pub HoldsOfEach : {M : Type 0} → (Component → M → Type 0) → List Component → List M → Type 0
HoldsOfEach P [] [] = Unit {0}
HoldsOfEach P [] (map ∷ maps) = ⊥
HoldsOfEach P (component ∷ components) [] = ⊥
HoldsOfEach P (component ∷ components) (map ∷ maps) = P component map × HoldsOfEach P components maps

-- maps stand for the rows lo..hi: there is one for each component of the shape, which shows the sums of its part
abbrev pub Stands : {E M : Type 0} → SemiringOn E → (List Mark → ℕ) → (List Mark → E) → (M → Type 0) → (M → ℕ → E)
    → Shape → ℕ → ℕ → ℕ → List M → Type 0
Stands r key weight fits value_at shape labels lo hi maps =
    HoldsOfEach (λ component map. Shows r key weight fits value_at (part shape labels component lo hi) map)
    (components shape) maps
