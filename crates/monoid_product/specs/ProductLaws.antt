-- The product of monoids is a monoid.
use Rattle.std.specs.Prelude.{◌≡◌, ℕ, ◌+◌, ◌*◌, ◌/◌, ◌%◌, ◌<◌, List, [], ◌∷◌}
use Rattle.std.proofs.Common.{refl, subst, arith}
use Rattle.std.proofs.Math.Nat.{mul_comm}
use Rattle.std.proofs.lemmas.Nat.{mul-add-lt, div-mul-add, mod-mul-add, div-add-mod', div_below, mod_below}
use Rattle.monoid_kit.specs.Monoid.{IsMonoid}
use Rattle.monoid_product.specs.declared.component.Component.{Component}
use Rattle.monoid_product.specs.declared.product.Product.{Product}
use Rattle.monoid_product.specs.Component.{PlainComponent, IsMonoidComponent}
use Rattle.monoid_product.specs.ComponentOf.{plain_components}
use Rattle.monoid_product.specs.ComponentLaws.{component-IsMonoid}
use Rattle.monoid_product.specs.ProductOf.{plain_parts}
use Rattle.monoid_product.specs.Product.{key_count, product_unit, product_mul}

-- all are monoids
abbrev pub AreMonoids : List PlainComponent → Type 0
AreMonoids [] = Unit {0}
AreMonoids (c ∷ cs) = IsMonoidComponent c × AreMonoids cs

pub plain_component-AreMonoids : (parts : List Component) → AreMonoids (plain_components parts)
plain_component-AreMonoids [] = tt
plain_component-AreMonoids (c ∷ cs) = (component-IsMonoid c, plain_component-AreMonoids cs)

-- two monoids, whose elements are the digits of one number
module _ {n u : ℕ} {m : ℕ → ℕ → ℕ} {k v : ℕ} {p : ℕ → ℕ → ℕ}
    (high : IsMonoid n u m) (low : IsMonoid k v p) where
  some_low : 0 < k
  some_low = (let below = low.unit_is_element in omega arith)

  high_in : (a : ℕ) → a < n * k → a / k < n
  high_in a a_in = div_below a k n some_low a_in

  low_in : (a : ℕ) → a % k < k
  low_in a = mod_below a k some_low

  key_in : (a b : ℕ) → a < n → b < k → a * k + b < n * k
  key_in a b a_in b_in =
      subst (λ size. a * k + b < size) (mul_comm k n) (mul-add-lt a k b n a_in b_in)

  abbrev pair_mul : ℕ → ℕ → ℕ
  pair_mul a b = m (a / k) (b / k) * k + p (a % k) (b % k)

  low_mul_in : (a b : ℕ) → p (a % k) (b % k) < k
  low_mul_in a b = low.product_is_element (a % k) (b % k) (low_in a) (low_in b)

  pair_mul-high : (a b : ℕ) → pair_mul a b / k ≡ m (a / k) (b / k)
  pair_mul-high a b = div-mul-add (m (a / k) (b / k)) k (p (a % k) (b % k)) (low_mul_in a b)

  pair_mul-low : (a b : ℕ) → pair_mul a b % k ≡ p (a % k) (b % k)
  pair_mul-low a b = mod-mul-add (m (a / k) (b / k)) k (p (a % k) (b % k)) (low_mul_in a b)

  pair_mul-is_element : (a b : ℕ) → a < n * k → b < n * k → pair_mul a b < n * k
  pair_mul-is_element a b a_in b_in =
      key_in (m (a / k) (b / k)) (p (a % k) (b % k))
      (high.product_is_element (a / k) (b / k) (high_in a a_in) (high_in b b_in)) (low_mul_in a b)

  pair_mul-left_identity : (a : ℕ) → a < n * k → pair_mul (u * k + v) a ≡ a
  pair_mul-left_identity a a_in =
      rw (
        div-mul-add u k v low.unit_is_element,
        mod-mul-add u k v low.unit_is_element,
        high.left_identity (a / k) (high_in a a_in),
        low.left_identity (a % k) (low_in a),
      )
      (div-add-mod' a k)

  pair_mul-right_identity : (a : ℕ) → a < n * k → pair_mul a (u * k + v) ≡ a
  pair_mul-right_identity a a_in =
      rw (
        div-mul-add u k v low.unit_is_element,
        mod-mul-add u k v low.unit_is_element,
        high.right_identity (a / k) (high_in a a_in),
        low.right_identity (a % k) (low_in a),
      )
      (div-add-mod' a k)

  pair_mul-associative : (a b c : ℕ) → a < n * k → b < n * k → c < n * k
      → pair_mul (pair_mul a b) c ≡ pair_mul a (pair_mul b c)
  pair_mul-associative a b c a_in b_in c_in =
      rw (
        pair_mul-high a b,
        pair_mul-low a b,
        pair_mul-high b c,
        pair_mul-low b c,
        high.associative (a / k) (b / k) (c / k) (high_in a a_in) (high_in b b_in) (high_in c c_in),
        low.associative (a % k) (b % k) (c % k) (low_in a) (low_in b) (low_in c),
      ) refl

  pair-IsMonoid : IsMonoid (n * k) (u * k + v) pair_mul
  pair-IsMonoid = record {
    unit_is_element = key_in u v high.unit_is_element low.unit_is_element;
    product_is_element = pair_mul-is_element;
    left_identity = pair_mul-left_identity;
    right_identity = pair_mul-right_identity;
    associative = pair_mul-associative;
  }

pub product-IsMonoid : (parts : List PlainComponent) → AreMonoids parts
    → IsMonoid (key_count parts) (product_unit parts) (product_mul parts)
product-IsMonoid [] monoids = record {
  unit_is_element = omega arith;
  product_is_element = λ a b a_in b_in. omega arith;
  left_identity = λ a a_in. omega arith;
  right_identity = λ a a_in. omega arith;
  associative = λ a b c a_in b_in c_in. refl;
}
product-IsMonoid (c ∷ cs) monoids = pair-IsMonoid monoids.0 (product-IsMonoid cs monoids.1)

pub parts-IsMonoid : (parts : List Component)
    → IsMonoid (key_count (plain_components parts)) (product_unit (plain_components parts))
    (product_mul (plain_components parts))
parts-IsMonoid parts = product-IsMonoid (plain_components parts) (plain_component-AreMonoids parts)

pub Product-IsMonoid : (product : Product)
    → IsMonoid (key_count (plain_parts product)) (product_unit (plain_parts product))
    (product_mul (plain_parts product))
Product-IsMonoid product = parts-IsMonoid product.parts
