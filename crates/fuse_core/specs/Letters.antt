-- The letters of a plan, and the key and the weight of a candidate.
use Rattle.std.specs.Prelude.{◌≡◌, ◌⊎◌, ℕ, zero, suc, ◌+◌, ◌*◌, ◌<◌, ◌≤◌, max, List, [], ◌∷◌, length}
use Rattle.monoid_kit.specs.Items.{AllElements}
use Rattle.monoid_kit.specs.Product.{product_by}
use Rattle.semiring_kit.specs.Semiring.{SemiringOn, IsGood, weight_bound}
use Rattle.shape_gen.specs.declared.mark.Mark.{Mark}
use Rattle.shape_gen.specs.declared.shape.Shape.{Shape}
use Rattle.shape_gen.specs.declared.shape.Shape.TheVariants.{Assign}
use Rattle.fuse_core.specs.declared.letter.Letter.{Letter}

-- the key of the letter at a place, and the unit past the end
abbrev pub key_at : {E : Type 0} → ℕ → List (Letter E) → ℕ → ℕ
key_at unit [] place = unit
key_at unit (letter ∷ letters) zero = letter.key
key_at unit (letter ∷ letters) (suc place) = key_at unit letters place

-- the value of the letter at a place, and one past the end
abbrev pub elem_at : {E : Type 0} → E → List (Letter E) → ℕ → E
elem_at one [] place = one
elem_at one (letter ∷ letters) zero = letter.elem
elem_at one (letter ∷ letters) (suc place) = elem_at one letters place

-- letters stand by row, and then by label
abbrev pub place_of : ℕ → Mark → ℕ
place_of labels m = m.row * labels + m.label

-- the key of a candidate: the product of the keys of its marks' letters, in their order
abbrev pub key_of : {E : Type 0} → ℕ → (ℕ → ℕ → ℕ) → ℕ → List (Letter E) → List Mark → ℕ
key_of unit times labels letters c = product_by unit times (λ m. key_at unit letters (place_of labels m)) c

-- the weight of a candidate: the product of the values of its marks' letters, in their order
abbrev pub weight_of : {E : Type 0} → SemiringOn E → ℕ → List (Letter E) → List Mark → E
weight_of r labels letters c = product_by r.one r.mul (λ m. elem_at r.one letters (place_of labels m)) c

-- the greatest of f at the numbers below n
abbrev pub greatest_below : (ℕ → ℕ) → ℕ → ℕ
greatest_below f zero = 0
greatest_below f (suc n) = max (greatest_below f n) (f n)

-- how far the letters of one row reach: as far as the one that reaches furthest
abbrev pub row_reach : {E : Type 0} → SemiringOn E → ℕ → List (Letter E) → ℕ → ℕ
row_reach r labels letters row = greatest_below (λ label. r.reach (elem_at r.one letters (row * labels + label))) labels

-- how far count rows from first on reach together
abbrev pub rows_reach : {E : Type 0} → SemiringOn E → ℕ → List (Letter E) → ℕ → ℕ → ℕ
rows_reach r labels letters first zero = 0
rows_reach r labels letters first (suc count) = row_reach r labels letters first + rows_reach r labels letters
    (first + 1) count

-- what a plan's letters keep: there is one for each row and label, keys are elements, values are good, and the rows
-- together reach no further than the bound
pub record HasLetters {E : Type 0} (r : SemiringOn E) (size : ℕ) (shape : Shape) (rows labels : ℕ)
    (letters : List (Letter E)) : Type 0 where
  pub some_label : 1 ≤ labels
  pub one_label : (shape ≡ Assign) ⊎ (labels ≡ 1)
  pub count : length letters ≡ rows * labels
  pub keys : AllElements (λ key. key < size) (λ letter. letter.key) letters
  pub elems : AllElements (IsGood r) (λ letter. letter.elem) letters
  pub within : rows_reach r labels letters 0 rows ≤ weight_bound
