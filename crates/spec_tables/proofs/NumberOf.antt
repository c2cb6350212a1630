-- The number of a name among names. Of any lists.
use Rattle.std.proofs.Common.{◌≡◌, ℕ, zero, suc, ◌+◌, ◌<◌, ◌≤◌, true, false, not, List, [], ◌∷◌}
use Rattle.std.proofs.Common.{◌++◌, map, take, drop, length, get_or, refl, sym, ap, ◌∙◌, eqb, cond}
use Rattle.std.proofs.Common.{arith}
use Rattle.std.specs.Str.{bytes_eq}
use Rattle.std.proofs.lemmas.Bool.{eq-eqb, ne_eqb}
use Rattle.std.proofs.lemmas.List.{map-append}
use Rattle.std.proofs.lemmas.Grind.{common_steps}
use Rattle.std.proofs.lemmas.List.{length-map}
use Rattle.std.proofs.lemmas.List.Folds.{prefix_len-append}
use Rattle.gta_spec.specs.WellFormed.{EachFits}
use Rattle.spec_tables.specs.Tables.{number_of}
use Rattle.spec_tables.proofs.Fronts.{split_at}

pub number_of-le : (names : List (List ℕ)) (x : List ℕ) → number_of names x ≤ length names
number_of-le [] x = omega arith
number_of-le (y ∷ ys) x =
    elim (bytes_eq y x) as (λ b. cond (not b) (1 + number_of ys x) 0 ≤ length (y ∷ ys)) [
      | true ↦ omega arith
      | false ↦ (let h = number_of-le ys x in omega arith)
    ]

pub number_of-append-past : (xs ys : List (List ℕ)) (x : List ℕ) → length xs ≤ number_of xs x
    → number_of (xs ++ ys) x ≡ length xs + number_of ys x
number_of-append-past xs ys x past =
    let h = number_of-le xs x in
    let e : eqb (number_of xs x) (length xs) ≡ true = eq-eqb _ _ (omega arith) in
    prefix_len-append (λ name. not (bytes_eq name x)) xs ys ∙ rw e refl

pub number_of-append-within : (xs ys : List (List ℕ)) (x : List ℕ) → number_of xs x < length xs
    → number_of (xs ++ ys) x ≡ number_of xs x
number_of-append-within xs ys x within =
    let e : eqb (number_of xs x) (length xs) ≡ false = ne_eqb _ _ (λ h. omega arith) in
    prefix_len-append (λ name. not (bytes_eq name x)) xs ys ∙ rw e refl

number_met : (front back : List (List ℕ)) (y x : List ℕ) (i : ℕ) → number_of front x ≡ i → length front ≡ i
    → true ≡ bytes_eq y x → i ≡ number_of (front ++ y ∷ back) x
number_met front back y x i none len hit =
    sym (number_of-append-past front (y ∷ back) x (omega arith) ∙ rw (sym hit, len) (omega arith))

pub number_at : (xs : List (List ℕ)) (x : List ℕ) (i : ℕ) (d : List ℕ) → number_of (take i xs) x ≡ i
    → i < length xs → d ≡ get_or xs i d → true ≡ bytes_eq d x → i ≡ number_of xs x
number_at xs x i d none lt is hit =
    number_met (take i xs) (drop (i + 1) xs) d x i none (length_front xs i lt) hit
    ∙ ap (λ (ys : List (List ℕ)). number_of ys x) (sym (split_at xs i d lt is))
  where
    length_front : (xs : List (List ℕ)) (i : ℕ) → i < length xs → length (take i xs) ≡ i
    length_front xs i lt = grind (arith, common_steps)

pub number_at_mapped : {A : Type 0} (f : A → List ℕ) (xs : List A) (x : List ℕ) (i : ℕ) (d : A)
    → number_of (map f (take i xs)) x ≡ i → i < length xs → d ≡ get_or xs i d → true ≡ bytes_eq (f d) x
    → i ≡ number_of (map f xs) x
number_at_mapped f xs x i d none lt is hit =
    number_met (map f (take i xs)) (map f (drop (i + 1) xs)) (f d) x i none (length_front f xs i lt) hit
    ∙ ap (λ (ys : List (List ℕ)). number_of ys x)
    (sym (ap (map f) (split_at xs i d lt is) ∙ map-append f (take i xs) (d ∷ drop (i + 1) xs)))
  where
    length_front : {A : Type 0} (f : A → List ℕ) (xs : List A) (i : ℕ) → i < length xs → length (map f (take i xs)) ≡ i
    length_front f xs i lt = grind (arith, common_steps, length-map)

-- what each item of a list fits, at a place
pub each_at : {A B : Type 0} (F : B → Type 0) (f : A → B) (xs : List A) (i : ℕ) (d : A) → EachFits F (map f xs)
    → i < length xs → d ≡ get_or xs i d → F (f d)
each_at F f [] i d fits lt is = absurd (omega arith)
each_at F f (x ∷ xs) zero d fits lt is = rw is fits.0
each_at F f (x ∷ xs) (suc i) d fits lt is = each_at F f xs i d fits.1 (omega arith) is
