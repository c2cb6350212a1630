-- Monoids: the laws, over the elements alone.
use Rattle.std.specs.Prelude.{◌≡◌, ℕ, ◌<◌}

-- a set of elements with an associative product and a unit
pub record IsMonoidOn {E : Type 0} (is_element : E → Type 0) (unit : E) (mul : E → E → E) : Type 0 where
  pub unit_is_element : is_element unit
  pub product_is_element : (a b : E) → is_element a → is_element b → is_element (mul a b)
  pub left_identity : (a : E) → is_element a → mul unit a ≡ a
  pub right_identity : (a : E) → is_element a → mul a unit ≡ a
  pub associative : (a b c : E) → is_element a → is_element b → is_element c
      → mul (mul a b) c ≡ mul a (mul b c)

-- a monoid on the numbers below a size, which is at least 1 since the unit is below it
abbrev pub IsMonoid : ℕ → ℕ → (ℕ → ℕ → ℕ) → Type 0
IsMonoid size unit mul = IsMonoidOn (λ a. a < size) unit mul

-- a monoid in which factors may change places
pub record IsCommutativeMonoidOn {E : Type 0} (is_element : E → Type 0) (unit : E) (mul : E → E → E) : Type 0 where
  pub monoid : IsMonoidOn is_element unit mul
  pub commutative : (a b : E) → is_element a → is_element b → mul a b ≡ mul b a
