-- Lists that loops make of the items of others.
use Rattle.std.proofs.Common.{◌≡◌, ℕ, ◌≤◌, List, [], ◌∷◌, map, length, take, refl, sym, ap, ◌∙◌}
use Rattle.std.proofs.lemmas.List.{take_all}

pub map-through : {A B C : Type 0} (f : B → C) (g : A → B) (xs : List A) → map f (map g xs) ≡ map (λ x. f (g x)) xs
map-through f g [] = refl
map-through f g (x ∷ xs) = ap (λ ys. f (g x) ∷ ys) (map-through f g xs)

-- what a loop made of all items
pub map-whole : {A B C : Type 0} (f : B → C) (g : A → B) (items : List A) (wholes : List B) (i : ℕ) (made : List C)
    → made ≡ map (λ x. f (g x)) (take i items) → length items ≤ i → map g items ≡ wholes → made ≡ map f wholes
map-whole f g items wholes i made is whole same =
    is ∙ ap (map (λ x. f (g x))) (take_all i items whole) ∙ sym (map-through f g items) ∙ ap (map f) same
