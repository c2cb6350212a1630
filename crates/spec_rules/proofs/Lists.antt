-- Searches of a list that is mapped.
use Rattle.std.proofs.Common.{◌≡◌, Bool, true, false, List, [], ◌∷◌, map, refl, cond, ◌++◌}
use Rattle.std.specs.Prelude.{◌||◌, Some, option_map}
use Rattle.std.specs.List.{list_any, find, flat_map}

pub any-map : {A B : Type 0} (f : A → B) (test : B → Bool) (xs : List A)
    → list_any test (map f xs) ≡ list_any (λ x. test (f x)) xs
any-map f test [] = refl
any-map f test (x ∷ xs) = rw (any-map f test xs) refl

pub find-map : {A B : Type 0} (f : A → B) (test : B → Bool) (xs : List A)
    → find test (map f xs) ≡ option_map f (find (λ x. test (f x)) xs)
find-map f test [] = refl
find-map f test (x ∷ xs) =
    elim (test (f x)) as (λ b. cond b (Some (f x)) (find test (map f xs))
    ≡ option_map f (cond b (Some x) (find (λ y. test (f y)) xs))) [
      | true ↦ refl
      | false ↦ find-map f test xs
    ]

any-append : {A : Type 0} (test : A → Bool) (xs ys : List A)
    → list_any test (xs ++ ys) ≡ (list_any test xs || list_any test ys)
any-append test [] ys = refl
any-append test (x ∷ xs) ys =
    elim (test x) as (λ b. (b || list_any test (xs ++ ys)) ≡ ((b || list_any test xs) || list_any test ys)) [
      | true ↦ refl
      | false ↦ any-append test xs ys
    ]

pub any-flat_map : {A B : Type 0} (f : A → List B) (test : B → Bool) (xs : List A)
    → list_any test (flat_map f xs) ≡ list_any (λ x. list_any test (f x)) xs
any-flat_map f test [] = refl
any-flat_map f test (x ∷ xs) = rw (any-append test (f x) (flat_map f xs), any-flat_map f test xs) refl
