-- The first unknown use of joined lists of uses, and of the uses of each item of a list.
use Rattle.std.proofs.Common.{◌≡◌, ℕ, ◌+◌, ◌<◌, List, [], ◌∷◌, ◌++◌, take, drop, length, get_or, map}
use Rattle.std.proofs.Common.{true, false, is_some, Option, Some, None, option_map, refl, sym, ap}
use Rattle.std.proofs.Common.{◌∙◌, not}
use Rattle.std.specs.Option.{option_or}
use Rattle.std.specs.List.{flat_map}
use Rattle.std.proofs.lemmas.List.{append-nil, map-append}
use Rattle.std.proofs.lemmas.Bool.{false≢true}
use Rattle.std.proofs.lemmas.List.Folds.{find-append}
use Rattle.std.proofs.lemmas.Grind.{flat_map-append}
use Rattle.gta_types.specs.declared.names.Names.{Names}
use Rattle.gta_types.specs.declared.names.Place.{Place}
use Rattle.gta_types.specs.Names.{Use}
use Rattle.gta_types.specs.Index.{known_by, used_place, place, unknown_in}
use Rattle.spec_tables.proofs.Fronts.{take_next, split_at}

option_or_mapped : {A B : Type 0} (f : A → B) (x y : Option A)
    → option_map f (option_or x y) ≡ option_or (option_map f x) (option_map f y)
option_or_mapped f None y = refl
option_or_mapped f (Some x) y = refl

pub unknown_in-nil : (names : Names) → unknown_in names [] ≡ None
unfolding unknown_in
unknown_in-nil names = refl

pub unknown_in-append : (names : Names) (us vs : List Use)
    → unknown_in names (us ++ vs) ≡ option_or (unknown_in names us) (unknown_in names vs)
unfolding unknown_in
unknown_in-append names us vs =
    ap (option_map used_place) (find-append (λ u. not (known_by names u.wanted u.name)) us vs)
    ∙ option_or_mapped used_place _ _

module _ {A : Type 0} (names : Names) (f : A → List Use) (xs : List A) (i : ℕ) (x : A) where
  none_here : (found : Option Place) → is_some found ≡ false → option_map place found ≡ unknown_in names (f x)
      → unknown_in names (f x) ≡ None
  none_here None absent is = sym is
  none_here (Some p) absent is = absurd (false≢true (sym absent))

  pub unknown_none_more : (found : Option Place) → i < length xs → x ≡ get_or xs i x
      → unknown_in names (flat_map f (take i xs)) ≡ None
      → option_map place found ≡ unknown_in names (f x) → false ≡ is_some found
      → unknown_in names (flat_map f (take (i + 1) xs)) ≡ None
  unknown_none_more found lt is before here absent =
      ap (λ (ys : List A). unknown_in names (flat_map f ys)) (take_next xs i x lt is)
      ∙ ap (unknown_in names) (flat_map-append f (take i xs) (x ∷ [])
      ∙ ap (λ (us : List Use). flat_map f (take i xs) ++ us) (append-nil (f x)))
      ∙ unknown_in-append names (flat_map f (take i xs)) (f x)
      ∙ rw (before, none_here found (sym absent) here) refl

  some_here : (found : Option Place) (o : Option (ℕ × List ℕ)) → true ≡ is_some found
      → option_map place found ≡ option_or (option_map place found) o
  some_here None o there = absurd (false≢true (sym there))
  some_here (Some p) o there = refl

  pub unknown_first : (found : Option Place) → i < length xs → x ≡ get_or xs i x
      → unknown_in names (flat_map f (take i xs)) ≡ None
      → option_map place found ≡ unknown_in names (f x) → true ≡ is_some found
      → option_map place found ≡ unknown_in names (flat_map f xs)
  unknown_first found lt is before here there =
      let rest = unknown_in names (flat_map f (drop (i + 1) xs)) in
      let e : unknown_in names (flat_map f xs) ≡ option_or (unknown_in names (f x)) rest =
      ap (λ (ys : List A). unknown_in names (flat_map f ys)) (split_at xs i x lt is)
      ∙ ap (unknown_in names) (flat_map-append f (take i xs) (x ∷ drop (i + 1) xs))
      ∙ unknown_in-append names (flat_map f (take i xs)) (f x ++ flat_map f (drop (i + 1) xs))
      ∙ rw before refl
      ∙ unknown_in-append names (f x) (flat_map f (drop (i + 1) xs)) in
      some_here found rest there ∙ ap (λ (o : Option (ℕ × List ℕ)). option_or o rest) here ∙ sym e

pub unknown_front : (names : Names) (us vs : List Use) (found : Option Place)
    → option_map place found ≡ unknown_in names us → true ≡ is_some found
    → option_map place found ≡ unknown_in names (us ++ vs)
unknown_front names us vs None here there = absurd (false≢true (sym there))
unknown_front names us vs (Some p) here there = sym (unknown_in-append names us vs ∙ rw (sym here) refl)

pub unknown_back : (names : Names) (us vs : List Use) (found : Option Place) (o : Option (ℕ × List ℕ))
    → option_map place found ≡ unknown_in names us → false ≡ is_some found → o ≡ unknown_in names vs
    → o ≡ unknown_in names (us ++ vs)
unknown_back names us vs None o here absent rest = rest ∙ sym (unknown_in-append names us vs ∙ rw (sym here) refl)
unknown_back names us vs (Some p) o here absent rest = absurd (false≢true absent)

module _ {A : Type 0} (names : Names) (f : A → Use) (xs ys : List A) where
  pub unknown_mapped_front : (found : Option Place) → option_map place found ≡ unknown_in names (map f xs)
      → true ≡ is_some found → option_map place found ≡ unknown_in names (map f (xs ++ ys))
  unknown_mapped_front found here there =
      unknown_front names (map f xs) (map f ys) found here there ∙ ap (unknown_in names) (sym (map-append f xs ys))

  pub unknown_mapped_back : (found : Option Place) (o : Option (ℕ × List ℕ))
      → option_map place found ≡ unknown_in names (map f xs) → false ≡ is_some found → o ≡ unknown_in names (map f ys)
      → o ≡ unknown_in names (map f (xs ++ ys))
  unknown_mapped_back found o here absent rest =
      unknown_back names (map f xs) (map f ys) found o here absent rest
      ∙ ap (unknown_in names) (sym (map-append f xs ys))
