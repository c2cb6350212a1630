-- The product of a list in a commutative monoid is that of each list with the same items in another order.
use Rattle.std.proofs.Common.{◌≡◌, ℕ, zero, suc, ◌<◌, List, [], ◌∷◌, length, get_or, refl, sym, ap, ◌∙◌, arith, inl}
use Rattle.std.proofs.Common.{inr}
use Rattle.std.proofs.Math.ListN.{set}
use Rattle.std.proofs.lemmas.Bool.{cases_eq, cases_lt}
use Rattle.std.proofs.lemmas.List.{set_comm, set-set, set-get_or}
use Rattle.std.proofs.lemmas.List.Sorted.{IsPermutation-keeps}
use Rattle.std.specs.List.{swap}
use Rattle.std.specs.List.Sorted.{IsPermutation}
use Rattle.monoid_kit.specs.Monoid.{IsCommutativeMonoidOn}
use Rattle.monoid_kit.specs.Product.{product_by}
use Rattle.monoid_kit.proofs.Products.{product_by-is_element}

module _ {E : Type 0} {is_element : E → Type 0} {unit : E} {mul : E → E → E}
    (abelian : IsCommutativeMonoidOn is_element unit mul)
    {X : Type 0} (f : X → E) (elements : (x : X) → is_element (f x)) where
  product : List X → E
  product xs = product_by unit mul f xs

  product-element : (xs : List X) → is_element (product xs)
  unfolding product
  product-element xs = product_by-is_element abelian.monoid f xs (λ x x_in. elements x)

  left_commutative : (a b c : E) → is_element a → is_element b → is_element c → mul a (mul b c) ≡ mul b (mul a c)
  left_commutative a b c a_in b_in c_in =
      sym (abelian.monoid.associative a b c a_in b_in c_in)
      ∙ ap (λ e. mul e c) (abelian.commutative a b a_in b_in)
      ∙ abelian.monoid.associative b a c b_in a_in c_in

  product-set : (xs : List X) (j : ℕ) (x d : X) → j < length xs
      → mul (f (get_or xs j d)) (product (set xs j x)) ≡ mul (f x) (product xs)
  unfolding product
  product-set [] j x d within = absurd (omega arith)
  product-set (y ∷ ys) zero x d within = left_commutative (f y) (f x) (product ys) (elements y) (elements x)
      (product-element ys)
  product-set (y ∷ ys) (suc j) x d within =
      left_commutative (f (get_or ys j d)) (f y) (product (set ys j x)) (elements (get_or ys j d)) (elements y)
      (product-element (set ys j x))
      ∙ ap (mul (f y)) (product-set ys j x d (omega arith))
      ∙ left_commutative (f y) (f x) (product ys) (elements y) (elements x) (product-element ys)

  product-exchange : (xs : List X) (i j : ℕ) (d : X) → i < j → j < length xs
      → product (set (set xs i (get_or xs j d)) j (get_or xs i d)) ≡ product xs
  unfolding product
  product-exchange [] i j d order within = absurd (omega arith)
  product-exchange (x ∷ xs) i zero d order within = absurd (omega arith)
  product-exchange (x ∷ xs) zero (suc j) d order within = product-set xs j x d (omega arith)
  product-exchange (x ∷ xs) (suc i) (suc j) d order within = ap (mul (f x))
      (product-exchange xs i j d (omega arith) (omega arith))

  product-swap : (xs : List X) (i j : ℕ) → i < length xs → j < length xs → product (swap xs i j) ≡ product xs
  product-swap [] i j i_in j_in = refl
  product-swap (d ∷ ys) i j i_in j_in =
      let xs : List X = d ∷ ys in
      let a = get_or xs i d in
      let b = get_or xs j d in
      elim (cases_lt i j) [
        | inl less ↦ product-exchange xs i j d less j_in
        | inr more ↦ elim (cases_eq i j) [
          | inl same ↦ ap (λ k. product (set (set xs i (get_or xs k d)) k a)) (sym same)
              ∙ ap product (set-set xs i a a ∙ set-get_or xs i d)
          | inr other ↦ ap product (set_comm xs i j b a other) ∙ product-exchange xs j i d (omega arith) i_in
        ]
      ]

  pub product_by-permuted : (xs ys : List X) → IsPermutation xs ys → product_by unit mul f ys ≡ product_by unit mul f xs
  unfolding product
  product_by-permuted xs ys permuted =
      IsPermutation-keeps xs (λ l. product l ≡ product xs) refl
      (λ l i j i_in j_in same. product-swap l i j i_in j_in ∙ same) ys permuted
