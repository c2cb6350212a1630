-- Products of monoids: a key combines a digit for each component, the first the most significant.
use Rattle.std.specs.Prelude.{ℕ, ◌+◌, ◌*◌, ◌/◌, ◌%◌, ◌<◌, List, [], ◌∷◌, map}
use Rattle.monoid_product.specs.Component.{PlainComponent}
use Rattle.monoid_product.specs.Component.{component_size, component_unit, component_mul}

-- how many keys there are: the product of the sizes
abbrev pub key_count : List PlainComponent → ℕ
key_count [] = 1
key_count (c ∷ cs) = component_size c * key_count cs

-- the key of digits: the first digit counts as often as the later components have keys
abbrev pub key_of : List PlainComponent → List ℕ → ℕ
key_of (c ∷ cs) (digit ∷ later) = digit * key_count cs + key_of cs later
key_of _ _ = 0

-- the digits of a key
abbrev pub digits : List PlainComponent → ℕ → List ℕ
digits [] key = []
digits (c ∷ cs) key = (key / key_count cs) ∷ digits cs (key % key_count cs)

-- an element of each component
abbrev pub AreDigits : List PlainComponent → List ℕ → Type 0
AreDigits [] [] = Unit {0}
AreDigits (c ∷ cs) (digit ∷ later) = (digit < component_size c) × AreDigits cs later
AreDigits _ _ = ⊥

-- the products digit by digit
abbrev pub digit_products : List PlainComponent → List ℕ → List ℕ → List ℕ
digit_products (c ∷ cs) (a ∷ as_) (b ∷ bs) = component_mul c a b ∷ digit_products cs as_ bs
digit_products _ _ _ = []

-- the key of the units
abbrev pub product_unit : List PlainComponent → ℕ
product_unit parts = key_of parts (map component_unit parts)

-- the product of two keys: the key of the products of their digits
abbrev pub product_mul : List PlainComponent → ℕ → ℕ → ℕ
product_mul parts a b = key_of parts (digit_products parts (digits parts a) (digits parts b))
