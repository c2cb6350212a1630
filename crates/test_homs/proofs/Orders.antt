-- Lists in another order: what f gives of their items is in another order too, and the product of numbers is the same.
use Rattle.std.proofs.Common.{◌≡◌, ℕ, ◌*◌, List, [], ◌∷◌, map, length, get_or}
use Rattle.std.proofs.Common.{refl, ap, ◌∙◌, arith}
use Rattle.std.specs.List.{swap}
use Rattle.std.specs.List.Sorted.{IsPermutation}
use Rattle.std.proofs.Math.ListN.{set, get_or-map}
use Rattle.std.proofs.Math.Nat.{mul_assoc, mul_comm, mul-one, one-mul}
use Rattle.std.proofs.lemmas.List.{length-map, map-set}
use Rattle.std.proofs.lemmas.List.Sorted.{IsPermutation-keeps, IsPermutation-refl, IsPermutation-swap}
use Rattle.std.proofs.lemmas.List.Sorted.{IsPermutation-trans}
use Rattle.monoid_kit.specs.Monoid.{IsCommutativeMonoidOn}
use Rattle.monoid_kit.specs.Product.{product_by}
use Rattle.monoid_kit.proofs.Permutations.{product_by-permuted}

-- the images of the items of xs, in another order
pub record IsReordered {A B : Type 0} (f : A → B) (xs : List A) (ys : List B) : Type 0 where
  pub items : List A
  pub permuted : IsPermutation xs items
  pub is : ys ≡ map f items

map-exchange : {A B : Type 0} (f : A → B) (xs : List A) (i j : ℕ) (d : A)
    → set (set (map f xs) i (get_or (map f xs) j (f d))) j (get_or (map f xs) i (f d))
    ≡ map f (set (set xs i (get_or xs j d)) j (get_or xs i d))
map-exchange f xs i j d = rw (get_or-map f xs j d, get_or-map f xs i d) (simp map-set)

map-swap : {A B : Type 0} (f : A → B) (xs : List A) (i j : ℕ) → swap (map f xs) i j ≡ map f (swap xs i j)
map-swap f [] i j = refl
map-swap f (x ∷ xs) i j = map-exchange f (x ∷ xs) i j x

pub reordered : {A B : Type 0} (f : A → B) (xs : List A) (ys : List B) → IsPermutation (map f xs) ys
    → IsReordered f xs ys
reordered f xs ys permuted =
    IsPermutation-keeps (map f xs) (IsReordered f xs)
    (record { items = xs; permuted = IsPermutation-refl xs; is = refl })
    (λ l i j i_in j_in so_far.
    let same = length-map so_far.items f in
    let long = ap length so_far.is in
    record {
      items = swap so_far.items i j;
      permuted = IsPermutation-trans xs so_far.items (swap so_far.items i j) so_far.permuted
          (IsPermutation-swap so_far.items (swap so_far.items i j) i j (omega arith) (omega arith) refl);
      is = ap (λ items. swap items i j) so_far.is ∙ map-swap f so_far.items i j;
    }) ys permuted

multiplication : IsCommutativeMonoidOn (λ (n : ℕ). Unit {0}) 1 (λ a b. a * b)
multiplication = record {
  monoid = record {
    unit_is_element = tt;
    product_is_element = λ a b a_in b_in. tt;
    left_identity = λ a a_in. one-mul a;
    right_identity = λ a a_in. mul-one a;
    associative = λ a b c a_in b_in c_in. mul_assoc a b c;
  };
  commutative = λ a b a_in b_in. mul_comm a b;
}

module _ {X : Type 0} (xs ys : List X) (permuted : IsPermutation xs ys) where
  pub product-permuted : (f : X → ℕ) → product_by 1 (λ a b. a * b) f ys ≡ product_by 1 (λ a b. a * b) f xs
  product-permuted f = product_by-permuted multiplication f (λ x. tt) xs ys permuted
