-- The items of a list, and what holds of each of them.
use Rattle.std.specs.Prelude.{List, [], ◌∷◌, ◌≡◌, ◌⊎◌, map}
use Rattle.std.specs.List.{flat_map}

-- x is an item of the list
abbrev pub IsIn : {X : Type 0} → X → List X → Type 0
IsIn x [] = ⊥
IsIn x (y ∷ ys) = (x ≡ y) ⊎ IsIn x ys

-- what f gives at each item is an element
abbrev pub AllElements : {E X : Type 0} → (E → Type 0) → (X → E) → List X → Type 0
AllElements {E} {X} is_element f xs = (x : X) → IsIn x xs → is_element (f x)

-- all pairs of an item of xs and an item of ys, in order
abbrev pub pairs : {X Y : Type 0} → List X → List Y → List (X × Y)
pairs xs ys = flat_map (λ x. map (λ y. (x, y)) ys) xs
