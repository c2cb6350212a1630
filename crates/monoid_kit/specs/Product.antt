-- The product of a list in a monoid. Where the monoid's operation is a sum, it is the list's sum.
use Rattle.std.specs.Prelude.{Bool, List, [], ◌∷◌, if◌then◌else◌}
use Rattle.std.specs.List.{fold}

-- the product of what f gives at the items, in their order
abbrev pub product_by : {E X : Type 0} → E → (E → E → E) → (X → E) → List X → E
product_by unit mul f [] = unit
product_by unit mul f (x ∷ xs) = mul (f x) (product_by unit mul f xs)

-- the product of a list, in its order
abbrev pub product : {E : Type 0} → E → (E → E → E) → List E → E
product unit mul xs = product_by unit mul (λ x. x) xs

-- the product from left to right: it begins with the unit, and what f gives at each item in turn is multiplied
-- to it on the right; over a monoid's elements it is product_by
abbrev pub product_from_left : {E X : Type 0} → E → (E → E → E) → (X → E) → List X → E
product_from_left unit mul f xs = fold (λ product x. mul product (f x)) unit xs

-- the factor where the test holds, and else the unit
abbrev pub only : {E : Type 0} → E → Bool → E → E
only unit test factor = if test then factor else unit
