-- Lemmas on the first item of a list, or of two lists, that a test holds of.
use Rattle.std.proofs.Common.{◌≡◌, ℕ, zero, suc, ◌+◌, ◌<◌, ◌≤◌, Bool, true, false, List, [], ◌∷◌, length, get_or, map}
use Rattle.std.proofs.Common.{cond, Option, Some, None, inl, inr, refl, sym, ap, ◌∙◌, arith}
use Rattle.std.specs.Prelude.{option_map}
use Rattle.std.specs.Option.{option_or}
use Rattle.std.specs.List.{find, range_with_len}
use Rattle.std.proofs.Math.Nat.{eq-or-lt_of_le}
use Rattle.std.proofs.lemmas.List.Folds.{find-append}
use Rattle.std.proofs.lemmas.List.FromFn.{get_or-range_with_len, length-range_with_len}
use Rattle.monoid_kit.specs.Items.{IsIn, pairs}

pub some≢none : {A : Type 0} (x : A) → Some x ≡ None → ⊥
some≢none x same = cc

pub option_map-is_none : {A B : Type 0} (f : A → B) (o : Option A) → option_map f o ≡ None → o ≡ None
option_map-is_none f None none = refl
option_map-is_none f (Some x) none = absurd (some≢none (f x) none)

pub option_or-first_none : {A : Type 0} (first second : Option A) → option_or first second ≡ None → first ≡ None
option_or-first_none None second none = refl
option_or-first_none (Some x) second none = none

pub option_or-second_none : {A : Type 0} (first second : Option A) → option_or first second ≡ None → second ≡ None
option_or-second_none None second none = none
option_or-second_none (Some x) second none = absurd (some≢none x none)

pub find-map : {A B : Type 0} (p : B → Bool) (f : A → B) (xs : List A)
    → find p (map f xs) ≡ option_map f (find (λ x. p (f x)) xs)
find-map p f [] = refl
find-map p f (x ∷ xs) = by_test (p (f x)) (find-map p f xs)
  where
    by_test : (t : Bool) → find p (map f xs) ≡ option_map f (find (λ y. p (f y)) xs)
        → cond t (Some (f x)) (find p (map f xs)) ≡ option_map f (cond t (Some x) (find (λ y. p (f y)) xs))
    by_test true later = refl
    by_test false later = later

module _ {A : Type 0} (p : A → Bool) where
  pub find-nowhere : (xs : List A) → ((x : A) → IsIn x xs → p x ≡ false) → find p xs ≡ None
  find-nowhere [] fails = refl
  find-nowhere (x ∷ xs) fails =
      let here : p x ≡ false = fails x (inl refl) in
      rw here (find-nowhere xs (λ y y_in. fails y (inr y_in)))

  pub find-is_none : (xs : List A) → find p xs ≡ None → (x : A) → IsIn x xs → p x ≡ false
  find-is_none [] none x x_in = absurd x_in
  find-is_none (y ∷ ys) none x x_in = by_test (p y) refl none (λ found. find-is_none ys found x)
    where
      by_test : (t : Bool) → p y ≡ t → cond t (Some y) (find p ys) ≡ None
          → (find p ys ≡ None → IsIn x ys → p x ≡ false) → p x ≡ false
      by_test true is found later = absurd (some≢none y found)
      by_test false is found later = elim x_in [
        | inl same ↦ ap p same ∙ is
        | inr in_rest ↦ later found in_rest
      ]

  find-at : (xs : List A) (i : ℕ) (d : A) → i < length xs
      → ((k : ℕ) → k < i → p (get_or xs k d) ≡ false) → p (get_or xs i d) ≡ true
      → find p xs ≡ Some (get_or xs i d)
  find-at [] i d below before here = absurd (omega arith)
  find-at (x ∷ xs) zero d below before here = rw here refl
  find-at (x ∷ xs) (suc i) d below before here =
      let fails : p x ≡ false = before 0 (omega arith) in
      rw fails (find-at xs i d (omega arith) (λ k less. before (suc k) (omega arith)) here)

at-range : (n k : ℕ) → k < n → get_or (range_with_len 0 n) k 0 ≡ k
at-range n k below = get_or-range_with_len 0 n k 0 below ∙ omega arith

pub IsIn-range_from : (lo n x : ℕ) → IsIn x (range_with_len lo n) → x < lo + n
IsIn-range_from lo zero x x_in = absurd x_in
IsIn-range_from lo (suc n) x x_in = elim x_in [
  | inl same ↦ omega arith
  | inr later ↦ (let less = IsIn-range_from (lo + 1) n x later in omega arith)
]

pub IsIn-range_of : (lo n x : ℕ) → lo ≤ x → x < lo + n → IsIn x (range_with_len lo n)
IsIn-range_of lo zero x from below = absurd (omega arith)
IsIn-range_of lo (suc n) x from below = elim (eq-or-lt_of_le from) [
  | inl same ↦ inl (sym same)
  | inr past ↦ inr (IsIn-range_of (lo + 1) n x (omega arith) (omega arith))
]

pub IsIn-range : (n x : ℕ) → IsIn x (range_with_len 0 n) → x < n
IsIn-range n x x_in = (let less = IsIn-range_from 0 n x x_in in omega arith)

-- over the numbers below n
module _ (p : ℕ → Bool) (n : ℕ) where
  pub find-range_at : (i : ℕ) → i < n → ((k : ℕ) → k < i → p k ≡ false) → p i ≡ true
      → find p (range_with_len 0 n) ≡ Some i
  find-range_at i below before here =
      find-at p (range_with_len 0 n) i 0 (simp length-range_with_len below)
      (λ k less. ap p (at-range n k (omega arith)) ∙ before k less) (ap p (at-range n i below) ∙ here)
      ∙ ap Some (at-range n i below)

  pub find-range_nowhere : ((k : ℕ) → k < n → p k ≡ false) → find p (range_with_len 0 n) ≡ None
  find-range_nowhere fails = find-nowhere p (range_with_len 0 n) (λ k k_in. fails k (IsIn-range n k k_in))

-- over pairs
module _ {A B : Type 0} (p : A × B → Bool) (ys : List B) where
  find-pairs-cons : (x : A) (xs : List A)
      → find p (pairs (x ∷ xs) ys)
      ≡ option_or (option_map (λ y. (x, y)) (find (λ y. p (x, y)) ys)) (find p (pairs xs ys))
  find-pairs-cons x xs =
      find-append p (map (λ y. (x, y)) ys) (pairs xs ys)
      ∙ ap (λ o. option_or o (find p (pairs xs ys))) (find-map p (λ y. (x, y)) ys)

  pub find-pairs_nowhere : (xs : List A) → ((x : A) → IsIn x xs → find (λ y. p (x, y)) ys ≡ None)
      → find p (pairs xs ys) ≡ None
  find-pairs_nowhere [] fails = refl
  find-pairs_nowhere (x ∷ xs) fails =
      find-pairs-cons x xs
      ∙ ap (λ o. option_or (option_map (λ y. (x, y)) o) (find p (pairs xs ys))) (fails x (inl refl))
      ∙ find-pairs_nowhere xs (λ z z_in. fails z (inr z_in))

  pub find-pairs_none : (xs : List A) → find p (pairs xs ys) ≡ None
      → (x : A) → IsIn x xs → find (λ y. p (x, y)) ys ≡ None
  find-pairs_none [] none x x_in = absurd x_in
  find-pairs_none (z ∷ zs) none x x_in =
      let both = sym (find-pairs-cons z zs) ∙ none in
      elim x_in [
        | inl same ↦
            ap (λ w. find (λ y. p (w, y)) ys) same
            ∙ option_map-is_none (λ y. (z, y)) (find (λ y. p (z, y)) ys) (option_or-first_none _ _ both)
        | inr later ↦ find-pairs_none zs (option_or-second_none _ _ both) x later
      ]

  find-pairs_at : (xs : List A) (i : ℕ) (d : A) (y : B) → i < length xs
      → ((k : ℕ) → k < i → find (λ y. p (get_or xs k d, y)) ys ≡ None)
      → find (λ y. p (get_or xs i d, y)) ys ≡ Some y
      → find p (pairs xs ys) ≡ Some (get_or xs i d, y)
  find-pairs_at [] i d y below before here = absurd (omega arith)
  find-pairs_at (x ∷ xs) zero d y below before here =
      find-pairs-cons x xs
      ∙ ap (λ o. option_or (option_map (λ y. (x, y)) o) (find p (pairs xs ys))) here
  find-pairs_at (x ∷ xs) (suc i) d y below before here =
      find-pairs-cons x xs
      ∙ ap (λ o. option_or (option_map (λ y. (x, y)) o) (find p (pairs xs ys))) (before 0 (omega arith))
      ∙ find-pairs_at xs i d y (omega arith) (λ k less. before (suc k) (omega arith)) here

-- over pairs whose first parts are the numbers below n
module _ {B : Type 0} (p : ℕ × B → Bool) (n : ℕ) (ys : List B) where
  pub find-range_pairs_at : (i : ℕ) (y : B) → i < n
      → ((k : ℕ) → k < i → find (λ y. p (k, y)) ys ≡ None) → find (λ y. p (i, y)) ys ≡ Some y
      → find p (pairs (range_with_len 0 n) ys) ≡ Some (i, y)
  find-range_pairs_at i y below before here =
      find-pairs_at p ys (range_with_len 0 n) i 0 y (simp length-range_with_len below)
      (λ k less. ap (λ x. find (λ y. p (x, y)) ys) (at-range n k (omega arith)) ∙ before k less)
      (ap (λ x. find (λ y. p (x, y)) ys) (at-range n i below) ∙ here)
      ∙ ap (λ x. Some (x, y)) (at-range n i below)

  pub find-range_pairs_nowhere : ((k : ℕ) → k < n → find (λ y. p (k, y)) ys ≡ None)
      → find p (pairs (range_with_len 0 n) ys) ≡ None
  find-range_pairs_nowhere fails =
      find-pairs_nowhere p ys (range_with_len 0 n) (λ k k_in. fails k (IsIn-range n k k_in))
