-- The first answer that an item of a list gets, and the first negative value of a measure.
use Rattle.std.proofs.Common.{◌≡◌, ℕ, zero, suc, ◌+◌, ◌<◌, ℤ, pos, ◌≤ℤ◌, Bool, true, false, cond}
use Rattle.std.specs.Option.{option_or}
use Rattle.std.proofs.Common.{List, [], ◌∷◌, map, length, get_or, Option, Some, None, refl, sym, ap, ◌∙◌, arith}
use Rattle.std.specs.Option.{option_map}
use Rattle.std.specs.List.{find, range_with_len}
use Rattle.std.specs.Int.RustNames.{int_lt}
use Rattle.std.proofs.lemmas.Int.{ints}
use Rattle.std.proofs.lemmas.List.FromFn.{get_or-range_with_len, length-range_with_len}
use Rattle.gta_checked.specs.PlainRows.{PlainRows}
use Rattle.gta_checked.specs.Plain.{PlainChecked}
use Rattle.gta_meaning.specs.InRange.{label_count}
use Rattle.gta_meaning.specs.Values.{value}
use Rattle.gta_meaning.proofs.First.{find-range-first, find-range-none}
use Rattle.gta_checked.specs.Plain.{PlainTest, plain_test}
use Rattle.gta_checked.specs.declared.resolved.Test.{Test}
use Rattle.test_homs.specs.declared.negatives.Negative.{Negative}
use Rattle.test_homs.specs.Negatives.{first_some, negative_label, negative_at, negative_value, negative_of_test}
use Rattle.test_homs.specs.Negatives.{negative_from, first_negative}

some≢none : {A : Type 0} (x : A) → Some x ≡ None → ⊥
some≢none x same = grind arith

option_or-first_none : {A : Type 0} (first second : Option A) → option_or first second ≡ None → first ≡ None
option_or-first_none None second none = refl
option_or-first_none (Some x) second none = none

option_or-second_none : {A : Type 0} (first second : Option A) → option_or first second ≡ None → second ≡ None
option_or-second_none None second none = none
option_or-second_none (Some x) second none = absurd (some≢none x none)

pub option_or-none : {A : Type 0} (first : Option A) → option_or first None ≡ first
option_or-none None = refl
option_or-none (Some x) = refl

option_map-is_none : {A B : Type 0} (f : A → B) (o : Option A) → option_map f o ≡ None → o ≡ None
option_map-is_none f None none = refl
option_map-is_none f (Some x) none = absurd (some≢none (f x) none)

module _ {A B : Type 0} (f : A → Option B) where
  first_some-nowhere : (xs : List A) → ((k : ℕ) (d : A) → k < length xs → f (get_or xs k d) ≡ None)
      → first_some f xs ≡ None
  first_some-nowhere [] none = refl
  first_some-nowhere (x ∷ xs) none =
      ap (λ o. option_or o (first_some f xs)) (none 0 x (omega arith))
      ∙ first_some-nowhere xs (λ k d below. none (suc k) d (omega arith))

  first_some-at : (xs : List A) (i : ℕ) (d : A) (y : B) → i < length xs
      → ((k : ℕ) → k < i → f (get_or xs k d) ≡ None) → f (get_or xs i d) ≡ Some y → first_some f xs ≡ Some y
  first_some-at [] i d y below before here = absurd (omega arith)
  first_some-at (x ∷ xs) zero d y below before here = ap (λ o. option_or o (first_some f xs)) here
  first_some-at (x ∷ xs) (suc i) d y below before here =
      ap (λ o. option_or o (first_some f xs)) (before 0 (omega arith))
      ∙ first_some-at xs i d y (omega arith) (λ k less. before (suc k) (omega arith)) here

  first_some-none : (xs : List A) → first_some f xs ≡ None
      → (k : ℕ) (d : A) → k < length xs → f (get_or xs k d) ≡ None
  first_some-none [] none k d below = absurd (omega arith)
  first_some-none (x ∷ xs) none zero d below = option_or-first_none (f x) (first_some f xs) none
  first_some-none (x ∷ xs) none (suc k) d below =
      first_some-none xs (option_or-second_none (f x) (first_some f xs) none) k d (omega arith)

find-is_none : {A : Type 0} (p : A → Bool) (xs : List A) → find p xs ≡ None
    → (k : ℕ) (d : A) → k < length xs → p (get_or xs k d) ≡ false
find-is_none p [] none k d below = absurd (omega arith)
find-is_none p (x ∷ xs) none k d below =
    by_test (p x) refl none (λ found j less. find-is_none p xs found j d less) k below
  where
    by_test : (t : Bool) → p x ≡ t → cond t (Some x) (find p xs) ≡ None
        → (find p xs ≡ None → (j : ℕ) → j < length xs → p (get_or xs j d) ≡ false)
        → (k : ℕ) → k < length (x ∷ xs) → p (get_or (x ∷ xs) k d) ≡ false
    by_test true is found later k less = absurd (some≢none x found)
    by_test false is found later zero less = is
    by_test false is found later (suc k) less = later found k (omega arith)

-- the same over the numbers below n
at-range : (n k : ℕ) → k < n → get_or (range_with_len 0 n) k 0 ≡ k
at-range n k below = get_or-range_with_len 0 n k 0 below ∙ omega arith

module _ {B : Type 0} (f : ℕ → Option B) (n : ℕ) where
  pub first_some-range_nowhere : ((k : ℕ) → k < n → f k ≡ None) → first_some f (range_with_len 0 n) ≡ None
  first_some-range_nowhere none =
      first_some-nowhere f (range_with_len 0 n) (λ k d less.
      let below : k < n = simp length-range_with_len at less in
      ap f (get_or-range_with_len 0 n k d below ∙ omega arith) ∙ none k below)

  pub first_some-range_at : (i : ℕ) (y : B) → i < n → ((k : ℕ) → k < i → f k ≡ None) → f i ≡ Some y
      → first_some f (range_with_len 0 n) ≡ Some y
  first_some-range_at i y below before here =
      first_some-at f (range_with_len 0 n) i 0 y (simp length-range_with_len below)
      (λ k less. ap f (at-range n k (omega arith)) ∙ before k less) (ap f (at-range n i below) ∙ here)

  pub first_some-range_none : first_some f (range_with_len 0 n) ≡ None → (k : ℕ) → k < n → f k ≡ None
  first_some-range_none none k below =
      ap f (sym (at-range n k below))
      ∙ first_some-none f (range_with_len 0 n) none k 0 (simp length-range_with_len below)

find-range_is_none : (p : ℕ → Bool) (n : ℕ) → find p (range_with_len 0 n) ≡ None
    → (k : ℕ) → k < n → p k ≡ false
find-range_is_none p n none k below =
    ap p (sym (at-range n k below))
    ∙ find-is_none p (range_with_len 0 n) none k 0 (simp length-range_with_len below)

test-from_natural : (v : ℤ) → pos 0 ≤ℤ v → int_lt v (pos 0) ≡ false
test-from_natural v natural = grind (arith, ints)

natural-from_test : (v : ℤ) → int_lt v (pos 0) ≡ false → pos 0 ≤ℤ v
natural-from_test v test = grind (arith, ints)

module _ (checked : PlainChecked) (rows : PlainRows) (test measure : ℕ) where
  abbrev pub is_negative : ℕ → ℕ → Bool
  is_negative row label = int_lt (value checked rows measure row label) (pos 0)

  abbrev pub negative : ℕ → ℕ → Negative
  negative row label = record { test = test; row = row; label = label; value = value checked rows measure row label }

  -- the first negative value of a row
  pub negative-first : (row label : ℕ) → label < label_count checked
      → ((k : ℕ) → k < label → pos 0 ≤ℤ value checked rows measure row k)
      → is_negative row label ≡ true
      → negative_at checked rows test measure row ≡ Some (negative row label)
  negative-first row label below before here =
      ap (option_map (negative row))
      (find-range-first (is_negative row) (label_count checked) label below
      (λ k less. test-from_natural (value checked rows measure row k) (before k less))
      here)

  pub negative-nowhere : (row : ℕ)
      → ((k : ℕ) → k < label_count checked → pos 0 ≤ℤ value checked rows measure row k)
      → negative_at checked rows test measure row ≡ None
  negative-nowhere row natural =
      ap (option_map (negative row))
      (find-range-none (is_negative row) (label_count checked)
      (λ k less. test-from_natural (value checked rows measure row k) (natural k less)))

  -- where there is no negative value, all are natural
  pub natural-values : negative_value checked rows test measure ≡ None
      → (row label : ℕ) → row < rows.count → label < label_count checked
      → pos 0 ≤ℤ value checked rows measure row label
  natural-values none row label row_in label_in =
      let at_row = first_some-range_none (negative_at checked rows test measure) rows.count none row row_in in
      let no_label = option_map-is_none (negative row) (negative_label checked rows measure row) at_row in
      natural-from_test (value checked rows measure row label)
      (find-range_is_none (is_negative row) (label_count checked) no_label label label_in)

-- over the tests, from a number on
module _ (checked : PlainChecked) (rows : PlainRows) where
  pub negative_from-nowhere : (items : List Test) (number : ℕ)
      → ((k : ℕ) (d : Test) → k < length items
      → negative_of_test checked rows (number + k) (plain_test (get_or items k d)) ≡ None)
      → negative_from checked rows number (map plain_test items) ≡ None
  negative_from-nowhere [] number none = refl
  negative_from-nowhere (t ∷ ts) number none =
      ap (λ o. option_or o (negative_from checked rows (number + 1) (map plain_test ts)))
      (ap (λ n. negative_of_test checked rows n (plain_test t)) (omega arith) ∙ none 0 t (omega arith))
      ∙ negative_from-nowhere ts (number + 1)
      (λ k d less. ap (λ n. negative_of_test checked rows n (plain_test (get_or ts k d))) (omega arith)
      ∙ none (suc k) d (omega arith))

  pub negative_from-at : (items : List Test) (number i : ℕ) (d : Test) (y : Negative) → i < length items
      → ((k : ℕ) → k < i → negative_of_test checked rows (number + k) (plain_test (get_or items k d)) ≡ None)
      → negative_of_test checked rows (number + i) (plain_test (get_or items i d)) ≡ Some y
      → negative_from checked rows number (map plain_test items) ≡ Some y
  negative_from-at [] number i d y below before here = absurd (omega arith)
  negative_from-at (t ∷ ts) number zero d y below before here =
      ap (λ o. option_or o (negative_from checked rows (number + 1) (map plain_test ts)))
      (ap (λ n. negative_of_test checked rows n (plain_test t)) (omega arith) ∙ here)
  negative_from-at (t ∷ ts) number (suc i) d y below before here =
      ap (λ o. option_or o (negative_from checked rows (number + 1) (map plain_test ts)))
      (ap (λ n. negative_of_test checked rows n (plain_test t)) (omega arith) ∙ before 0 (omega arith))
      ∙ negative_from-at ts (number + 1) i d y (omega arith)
      (λ k less. ap (λ n. negative_of_test checked rows n (plain_test (get_or ts k d))) (omega arith)
      ∙ before (suc k) (omega arith))
      (ap (λ n. negative_of_test checked rows n (plain_test (get_or ts i d))) (omega arith) ∙ here)

  pub negative_from-cons_none : (t : PlainTest) (ts : List PlainTest) (number : ℕ)
      → negative_from checked rows number (t ∷ ts) ≡ None
      → (negative_of_test checked rows number t ≡ None) × (negative_from checked rows (number + 1) ts ≡ None)
  negative_from-cons_none t ts number none = (
    option_or-first_none (negative_of_test checked rows number t) (negative_from checked rows (number + 1) ts) none,
    option_or-second_none (negative_of_test checked rows number t) (negative_from checked rows (number + 1) ts) none,
  )

  pub first_negative-nowhere : (items : List Test) → map plain_test items ≡ checked.tests
      → ((k : ℕ) (d : Test) → k < length items → negative_of_test checked rows k (plain_test (get_or items k d)) ≡ None)
      → first_negative checked rows ≡ None
  first_negative-nowhere items same none =
      ap (negative_from checked rows 0) (sym same)
      ∙ negative_from-nowhere items 0
      (λ k d below. ap (λ n. negative_of_test checked rows n (plain_test (get_or items k d))) (omega arith)
      ∙ none k d below)

  pub first_negative-at : (items : List Test) → map plain_test items ≡ checked.tests
      → (i : ℕ) (d : Test) (y : Negative) → i < length items
      → ((k : ℕ) → k < i → negative_of_test checked rows k (plain_test (get_or items k d)) ≡ None)
      → negative_of_test checked rows i (plain_test (get_or items i d)) ≡ Some y
      → first_negative checked rows ≡ Some y
  first_negative-at items same i d y below before here =
      ap (negative_from checked rows 0) (sym same)
      ∙ negative_from-at items 0 i d y below
      (λ k less. ap (λ n. negative_of_test checked rows n (plain_test (get_or items k d))) (omega arith)
      ∙ before k less)
      (ap (λ n. negative_of_test checked rows n (plain_test (get_or items i d))) (omega arith) ∙ here)
