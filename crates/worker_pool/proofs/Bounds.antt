-- Bounds that rise, and tests on them.
use Rattle.std.proofs.Common.{◌≡◌, ◌≢◌, ℕ, zero, suc, ◌+◌, ◌-◌, ◌<◌, ◌≤◌, ◌==◌, List, length, get_or, Result, Ok, Err}
use Rattle.std.proofs.Common.{MatchOption, Bool, true, false, ◌&&◌, refl, ap, arith, nat_lt, ◌⊎◌, inl, inr, ⊎_elim}
use Rattle.std.specs.Result.{result_ok}
use Rattle.std.specs.Ordering.{nat_cmp}
use Rattle.std.specs.List.Sorted.{IsStrictlyIncreasing, IsBinarySearchResult}
use Rattle.std.proofs.lemmas.List.Sorted.{searched}
use Rattle.std.proofs.lemmas.Bool.Decides.{nat_tests}
use Rattle.std.proofs.lemmas.Option.{get_or_from_slice_get}
use Rattle.interval_kit.specs.Cut.{IsCut}

pub both : (a b : Bool) → (a && b) ≡ true → (a ≡ true) × (b ≡ true)
both true b h = (refl, h)
both false b h = cc

pub alike : (m n : ℕ) → (m == n) ≡ true → m ≡ n
alike m n h = grind (arith, nat_tests)

pub is_same : (m n : ℕ) → m ≡ n → (m == n) ≡ true
is_same m n h = grind (arith, nat_tests)

pub unlike : (m n : ℕ) → m ≢ n → (m == n) ≡ false
unlike m n h = grind (arith, nat_tests)

pub same_or_not : (i j : ℕ) → (i ≡ j) ⊎ (i ≢ j)
same_or_not i j = elim (i == j) as (λ t. (i == j) ≡ t → (i ≡ j) ⊎ (i ≢ j)) [
  | true ↦ λ h. inl (alike i j h)
  | false ↦ λ h. inr (grind (arith, nat_tests))
] refl

pub below_or_not : (i j : ℕ) → (i < j) ⊎ (j ≤ i)
below_or_not i j = elim (nat_lt i j) as (λ t. nat_lt i j ≡ t → (i < j) ⊎ (j ≤ i)) [
  | true ↦ λ h. inl (grind (arith, nat_tests))
  | false ↦ λ h. inr (grind (arith, nat_tests))
] refl

module _ (xs : List ℕ) (rises : IsStrictlyIncreasing xs) where
  rising_by : (d i j : ℕ) → j ≡ i + d + 1 → j < length xs → get_or xs i 0 < get_or xs j 0
  rising_by zero i j e h =
      let next : j ≡ i + 1 = omega arith in
      omega (arith, rises i (omega arith), ap (λ k. get_or xs k 0) next)
  rising_by (suc d) i j e h =
      let next : j ≡ i + d + 1 + 1 = omega arith in
      omega (
        arith,
        rising_by d i (i + d + 1) refl (omega arith),
        rises (i + d + 1) (omega arith),
        ap
            (λ k. get_or xs k 0) next,
      )

  pub rising : (i j : ℕ) → i < j → j < length xs → get_or xs i 0 < get_or xs j 0
  rising i j l h = rising_by (j - i - 1) i j (omega arith) h

  pub not_falling : (i j : ℕ) → i ≤ j → j < length xs → get_or xs i 0 ≤ get_or xs j 0
  not_falling i j l h =
      ⊎_elim
      (λ (below : i < j). omega (arith, rising i j below h))
      (λ (above : j ≤ i). let e : j ≡ i = omega arith in omega (arith, ap (λ k. get_or xs k 0) e))
      (below_or_not i j)

  pub place_below : (k : ℕ) → k < length xs → k ≤ get_or xs k 0
  place_below zero h = omega arith
  place_below (suc k) h =
      let next : suc k ≡ k + 1 = omega arith in
      let before = place_below k (omega arith) in
      let step = rises k (omega arith) in
      omega (arith, ap (λ n. get_or xs n 0) next)

  -- what a search for a bound finds
  pub index_found : (x : ℕ) (r : Result ℕ ℕ) → IsBinarySearchResult (λ y. nat_cmp y x) xs r
      → MatchOption (result_ok r) ((j : ℕ) → j < length xs → get_or xs j 0 ≢ x)
      (λ j. (j < length xs) × (get_or xs j 0 ≡ x))
  index_found x (Ok i) h = searched xs x (Ok i) h not_falling
  index_found x (Err i) h =
      let s = searched xs x (Err i) h not_falling in
      λ j within same.
      ⊎_elim (λ (below : j < i). absurd (omega (arith, s.1 j below)))
      (λ (above : i ≤ j). absurd (omega (arith, s.2 j above within)))
      (below_or_not j i)

-- a leaf of a cut has rows, all within the cut's
pub leaf_within : (rows : ℕ) (bounds : List ℕ) → IsCut rows bounds → (number : ℕ) → number + 1 < length bounds
    → (get_or bounds number 0 < get_or bounds (number + 1) 0) × (get_or bounds (number + 1) 0 ≤ rows)
leaf_within rows bounds cut number within = (
  rising bounds cut.rises number (number + 1) (omega arith) within,
  omega (
    arith,
    not_falling bounds cut.rises (number + 1) (length bounds - 1) (omega arith) (omega arith),
    get_or_from_slice_get bounds (length bounds - 1) rows 0 cut.ends,
  ),
)
