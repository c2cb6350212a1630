-- The products of lists by key. What the lemmas need is a commutative monoid.
use Rattle.std.proofs.Common.{◌≡◌, ℕ, zero, suc, ◌+◌, ◌<◌, ◌≤◌, List, [], ◌∷◌, nat_eq, inl, inr, refl, sym, ap, ◌∙◌}
use Rattle.std.proofs.Common.{arith}
use Rattle.std.specs.List.{filter, range_with_len}
use Rattle.std.proofs.lemmas.Bool.{cases_eq, eq-eqb, ne_eqb}
use Rattle.monoid_kit.specs.Monoid.{IsCommutativeMonoidOn}
use Rattle.monoid_kit.specs.Items.{IsIn, AllElements}
use Rattle.monoid_kit.specs.Product.{product_by, only}
use Rattle.monoid_kit.specs.Keyed.{keyed, IsAdditive}
use Rattle.monoid_kit.proofs.Products.{product_by-unit, product_by-same, product_by-mul, product_by-is_element}
use Rattle.monoid_kit.proofs.Products.{product_by-filter, only-is_element}

module _ {E : Type 0} {is_element : E → Type 0} {unit : E} {mul : E → E → E}
    (abelian : IsCommutativeMonoidOn is_element unit mul) where
  pub keyed-is_element : {X : Type 0} (key : X → ℕ) (f : X → E) (xs : List X) (k : ℕ)
      → AllElements is_element f xs → is_element (keyed unit mul key f xs k)
  keyed-is_element key f xs k elements =
      product_by-is_element abelian.monoid (λ x. only unit (nat_eq (key x) k) (f x)) xs
      (λ x x_in. only-is_element abelian.monoid (nat_eq (key x) k) (f x) (elements x x_in))

  pub keyed-filter : {X : Type 0} (key : X → ℕ) (f : X → E) (xs : List X) (k : ℕ)
      → AllElements is_element f xs
      → keyed unit mul key f xs k ≡ product_by unit mul f (filter (λ x. nat_eq (key x) k) xs)
  keyed-filter key f xs k elements =
      sym (product_by-filter abelian.monoid (λ x. nat_eq (key x) k) f xs elements)

  -- what is additive for each item is so for their product
  pub product_by-IsAdditive : {X : Type 0} (g : X → E → E) (xs : List X)
      → ((x : X) → IsIn x xs → IsAdditive is_element unit mul (g x))
      → IsAdditive is_element unit mul (λ a. product_by unit mul (λ x. g x a) xs)
  product_by-IsAdditive g xs additive = record {
    keeps_elements = λ a a_in. product_by-is_element abelian.monoid (λ x. g x a) xs
        (λ x x_in. (additive x x_in).keeps_elements a a_in);
    keeps_unit = product_by-unit abelian.monoid (λ x. g x unit) xs (λ x x_in. (additive x x_in).keeps_unit);
    keeps_products = λ a b a_in b_in.
        product_by-same unit mul (λ x. g x (mul a b)) (λ x. mul (g x a) (g x b)) xs
        (λ x x_in. (additive x x_in).keeps_products a b a_in b_in)
        ∙ product_by-mul abelian (λ x. g x a) (λ x. g x b) xs
        (λ x x_in. (additive x x_in).keeps_elements a a_in)
        (λ x x_in. (additive x x_in).keeps_elements b b_in);
  }

module _ {E : Type 0} {is_element : E → Type 0} {unit : E} {mul : E → E → E}
    (abelian : IsCommutativeMonoidOn is_element unit mul)
    (g : ℕ → E → E) (additive : (k : ℕ) → IsAdditive is_element unit mul (g k)) where
  product_by-past : (k low count : ℕ) (a : E) → k < low
      → product_by unit mul (λ b. g b (only unit (nat_eq k b) a)) (range_with_len low count) ≡ unit
  product_by-past k low zero a past = refl
  product_by-past k low (suc count) a past =
      let rest = product_by unit mul (λ b. g b (only unit (nat_eq k b) a)) (range_with_len (low + 1) count) in
      ap (λ t. mul (g low (only unit t a)) rest) (ne_eqb k low (λ same. absurd (omega arith)))
      ∙ ap (λ e. mul e rest) (additive low).keeps_unit
      ∙ ap (mul unit) (product_by-past k (low + 1) count a (omega arith))
      ∙ abelian.monoid.left_identity unit abelian.monoid.unit_is_element

  pub product_by-at_key : (k low count : ℕ) (a : E) → is_element a → low ≤ k → k < low + count
      → product_by unit mul (λ b. g b (only unit (nat_eq k b) a)) (range_with_len low count) ≡ g k a
  product_by-at_key k low zero a element above below = absurd (omega arith)
  product_by-at_key k low (suc count) a element above below =
      let rest = product_by unit mul (λ b. g b (only unit (nat_eq k b) a)) (range_with_len (low + 1) count) in
      elim (cases_eq k low) [
        | inl same ↦
            ap (λ t. mul (g low (only unit t a)) rest) (eq-eqb k low same)
            ∙ ap (mul (g low a)) (product_by-past k (low + 1) count a (omega arith))
            ∙ abelian.monoid.right_identity (g low a) ((additive low).keeps_elements a element)
            ∙ ap (λ b. g b a) (sym same)
        | inr other ↦
            ap (λ t. mul (g low (only unit t a)) rest) (ne_eqb k low other)
            ∙ ap (λ e. mul e rest) (additive low).keeps_unit
            ∙ ap (mul unit) (product_by-at_key k (low + 1) count a element (omega arith) (omega arith))
            ∙ abelian.monoid.left_identity (g k a) ((additive k).keeps_elements a element)
      ]

  -- what depends on the keys' products, taken over all keys, is taken over the items
  pub product_by-keyed : {X : Type 0} (size : ℕ) (key : X → ℕ) (f : X → E) (xs : List X)
      → AllElements is_element f xs → AllElements (λ k. k < size) key xs
      → product_by unit mul (λ b. g b (keyed unit mul key f xs b)) (range_with_len 0 size)
      ≡ product_by unit mul (λ x. g (key x) (f x)) xs
  product_by-keyed size key f [] elements keys =
      product_by-unit abelian.monoid (λ b. g b unit) (range_with_len 0 size) (λ b b_in. (additive b).keeps_unit)
  product_by-keyed size key f (x ∷ xs) elements keys =
      let here = λ (b : ℕ). only unit (nat_eq (key x) b) (f x) in
      let later = λ (b : ℕ). keyed unit mul key f xs b in
      let here_in = λ (b : ℕ). only-is_element abelian.monoid (nat_eq (key x) b) (f x) (elements x (inl refl)) in
      let later_in = λ (b : ℕ). keyed-is_element abelian key f xs b (λ y y_in. elements y (inr y_in)) in
      product_by-same unit mul (λ b. g b (mul (here b) (later b))) (λ b. mul (g b (here b)) (g b (later b)))
      (range_with_len 0 size)
      (λ b b_in. (additive b).keeps_products (here b) (later b) (here_in b) (later_in b))
      ∙ product_by-mul abelian (λ b. g b (here b)) (λ b. g b (later b)) (range_with_len 0 size)
      (λ b b_in. (additive b).keeps_elements (here b) (here_in b))
      (λ b b_in. (additive b).keeps_elements (later b) (later_in b))
      ∙ ap (λ e. mul e (product_by unit mul (λ b. g b (later b)) (range_with_len 0 size)))
      (product_by-at_key (key x) 0 size (f x) (elements x (inl refl)) (omega arith)
      (let below : key x < size = keys x (inl refl) in omega arith))
      ∙ ap (mul (g (key x) (f x)))
      (product_by-keyed size key f xs (λ y y_in. elements y (inr y_in)) (λ y y_in. keys y (inr y_in)))
