-- Products by key: of the items of a list, only those with one key count.
use Rattle.std.specs.Prelude.{◌≡◌, ℕ, List, nat_eq}
use Rattle.monoid_kit.specs.Product.{product_by, only}

-- the product of what f gives at the items whose key is k, in their order
abbrev pub keyed : {E X : Type 0} → E → (E → E → E) → (X → ℕ) → (X → E) → List X → ℕ → E
keyed unit mul key f xs k = product_by unit mul (λ x. only unit (nat_eq (key x) k) (f x)) xs

-- g keeps elements, the unit and products
pub record IsAdditive {E : Type 0} (is_element : E → Type 0) (unit : E) (mul : E → E → E) (g : E → E) : Type 0 where
  pub keeps_elements : (a : E) → is_element a → is_element (g a)
  pub keeps_unit : g unit ≡ unit
  pub keeps_products : (a b : E) → is_element a → is_element b → g (mul a b) ≡ mul (g a) (g b)
