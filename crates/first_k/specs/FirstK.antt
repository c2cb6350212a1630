-- The semiring whose elements are lists in order, of no more than k items: a sum is the first k of both lists,
-- and a product is the first k of all products of an item of the one and an item of the other.
use Rattle.std.specs.Prelude.{◌≡◌, ℕ, ◌+◌, ◌≤◌, max, List, [], ◌∷◌, ◌++◌, map}
use Rattle.std.specs.declared.cmp.Ordering.{Ordering}
use Rattle.witness_order.specs.Ranked.{first_of, IsRankedWithin}
use Rattle.semiring_kit.specs.Semiring.{SemiringOn}

-- each item of xs times each item of ys
abbrev pub products : {E : Type 0} → (E → E → E) → List E → List E → List E
products mul [] ys = []
products mul (x ∷ xs) ys = map (mul x) ys ++ products mul xs ys

-- the greatest reach of an item, or 0 where there is none
abbrev pub reach_of : {E : Type 0} → (E → ℕ) → List E → ℕ
reach_of reach [] = 0
reach_of reach (x ∷ xs) = max (reach x) (reach_of reach xs)

abbrev pub first_k : {E : Type 0} → (E → E → Ordering) → ℕ → E → (E → E → E) → (E → ℕ)
    → SemiringOn (List E)
first_k cmp k unit mul reach = record {
  zero = [];
  one = first_of cmp k (unit ∷ []);
  add = λ a b. first_of cmp k (a ++ b);
  mul = λ a b. first_of cmp k (products mul a b);
  is_sound = IsRankedWithin cmp k;
  reach = reach_of reach;
}

-- a product reaches no further than both factors together
pub record AddsReach {E : Type 0} (reach : E → ℕ) (unit : E) (mul : E → E → E) : Type 0 where
  pub unit_reach : reach unit ≡ 0
  pub product_reach : (x y : E) → reach (mul x y) ≤ reach x + reach y
