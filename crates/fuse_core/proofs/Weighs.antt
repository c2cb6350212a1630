-- Keys and weights of candidates: keys are elements, weights are good as far as they reach, and both take
-- concatenations to products.
use Rattle.std.proofs.Common.{◌≡◌, ℕ, zero, suc, ◌<◌, List, [], ◌∷◌, ◌++◌, refl, inl, inr}
use Rattle.monoid_kit.specs.Monoid.{IsMonoid}
use Rattle.monoid_kit.specs.Items.{AllElements}
use Rattle.monoid_kit.proofs.Products.{product_by-is_element, product_by-append}
use Rattle.semiring_kit.specs.Semiring.{SemiringOn, IsSemiring, IsGood}
use Rattle.semiring_kit.proofs.Sums.{one_is_good}
use Rattle.shape_gen.specs.declared.mark.Mark.{Mark}
use Rattle.shape_gen.specs.declared.shape.Shape.{Shape}
use Rattle.fuse_core.specs.declared.letter.Letter.{Letter}
use Rattle.fuse_core.specs.Letters.{key_at, elem_at, place_of, key_of, weight_of, HasLetters}

-- what a key and a weight of lists keep
pub record Weighs {E : Type 0} (r : SemiringOn E) (size : ℕ) (times : ℕ → ℕ → ℕ) (key : List Mark → ℕ)
    (weight : List Mark → E) : Type 0 where
  pub in_range : (c : List Mark) → key c < size
  pub is_sound : (c : List Mark) → r.is_sound (weight c)
  pub key_append : (c d : List Mark) → key (c ++ d) ≡ times (key c) (key d)
  pub weight_append : (c d : List Mark) → weight (c ++ d) ≡ r.mul (weight c) (weight d)

pub key_at-in_range : {E : Type 0} (size unit : ℕ) (letters : List (Letter E)) (place : ℕ) → unit < size
    → AllElements (λ key. key < size) (λ letter. letter.key) letters → key_at unit letters place < size
key_at-in_range size unit [] place unit_in keys = unit_in
key_at-in_range size unit (letter ∷ letters) zero unit_in keys = keys letter (inl refl)
key_at-in_range size unit (letter ∷ letters) (suc place) unit_in keys =
    key_at-in_range size unit letters place unit_in (λ l l_in. keys l (inr l_in))

pub elem_at-is_good : {E : Type 0} {r : SemiringOn E} (laws : IsSemiring r) (letters : List (Letter E)) (place : ℕ)
    → AllElements (IsGood r) (λ letter. letter.elem) letters → IsGood r (elem_at r.one letters place)
elem_at-is_good laws [] place elems = one_is_good laws
elem_at-is_good laws (letter ∷ letters) zero elems = elems letter (inl refl)
elem_at-is_good laws (letter ∷ letters) (suc place) elems = elem_at-is_good laws letters place
    (λ l l_in. elems l (inr l_in))

module _ {E : Type 0} {r : SemiringOn E} (laws : IsSemiring r) {size unit : ℕ} {times : ℕ → ℕ → ℕ}
    (monoid : IsMonoid size unit times)
    (shape : Shape) (rows labels : ℕ) (letters : List (Letter E)) (has : HasLetters r size shape rows labels letters)
  where
    pub weighs : Weighs r size times (key_of unit times labels letters) (weight_of r labels letters)
    weighs =
        let key = λ (m : Mark). key_at unit letters (place_of labels m) in
        let elem = λ (m : Mark). elem_at r.one letters (place_of labels m) in
        let key_in = λ (m : Mark). key_at-in_range size unit letters (place_of labels m) monoid.unit_is_element
        has.keys in
        let elem_sound = λ (m : Mark). (elem_at-is_good laws letters (place_of labels m) has.elems).sound in
        record {
          in_range = λ c. product_by-is_element monoid key c (λ m m_in. key_in m);
          is_sound = λ c. product_by-is_element laws.multiplication elem c (λ m m_in. elem_sound m);
          key_append = λ c d. product_by-append monoid key c d (λ m m_in. key_in m) (λ m m_in. key_in m);
          weight_append = λ c d. product_by-append laws.multiplication elem c d (λ m m_in. elem_sound m)
              (λ m m_in. elem_sound m);
        }
