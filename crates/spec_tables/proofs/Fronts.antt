-- The fronts of lists, one element longer. Of any lists.
use Rattle.std.proofs.Common.{◌≡◌, ℕ, ◌+◌, ◌<◌, List, [], ◌∷◌, ◌++◌, map, take, drop, length}
use Rattle.std.proofs.Common.{get_or, add-one, drop-cons, refl, sym, ap, ◌∙◌}
use Rattle.std.proofs.lemmas.Grind.{take_at_read}
use Rattle.std.proofs.lemmas.List.{map-append, take-append-drop}

pub take_next : {A : Type 0} (xs : List A) (i : ℕ) (d : A) → i < length xs → d ≡ get_or xs i d
    → take (i + 1) xs ≡ take i xs ++ d ∷ []
take_next xs i d lt is =
    (take_at_read xs i d lt).1 ∙ ap (λ (x : _). take i xs ++ x ∷ []) (sym is)

pub map_take_next : {A B : Type 0} (f : A → B) (xs : List A) (i : ℕ) (d : A) → i < length xs → d ≡ get_or xs i d
    → map f (take (i + 1) xs) ≡ map f (take i xs) ++ f d ∷ []
map_take_next f xs i d lt is = ap (map f) (take_next xs i d lt is) ∙ map-append f (take i xs) (d ∷ [])

pub split_at : {A : Type 0} (xs : List A) (i : ℕ) (d : A) → i < length xs → d ≡ get_or xs i d
    → xs ≡ take i xs ++ d ∷ drop (i + 1) xs
split_at xs i d lt is = sym (take-append-drop i xs)
    ∙ ap (λ (ys : List _). take i xs ++ ys)
    (drop-cons xs i d lt ∙ rw (sym is, sym (add-one i)) refl)
