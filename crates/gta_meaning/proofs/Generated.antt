-- Every generated candidate is in range.
use Rattle.std.proofs.Common.{◌≡◌, ℕ, zero, suc, ◌+◌, ◌-◌, ◌<◌, ◌≤◌, List, [], ◌∷◌}
use Rattle.std.proofs.Common.{map, get_or, All, subst, sym, arith}
use Rattle.std.proofs.lemmas.List.Elements.{All-nil, All-cons, All-head, All-tail, All-append, All-map, All-weaker}
use Rattle.std.proofs.lemmas.List.FromFn.{get_or-range_with_len, length-range_with_len}
use Rattle.std.specs.List.{range_with_len, flat_map}
use Rattle.std.specs.List.Sorted.{IsStrictlyIncreasing}
use Rattle.shape_gen.specs.declared.mark.Mark.{Mark}
use Rattle.shape_gen.specs.declared.shape.Shape.{Shape}
use Rattle.shape_gen.specs.declared.shape.Shape.TheVariants.{Sublists, Assign, Prefixes, Suffixes, Segments}
use Rattle.shape_gen.specs.Candidates.{mark, run, sublists, assignments, prefixes, segments, candidates}
use Rattle.gta_checked.specs.PlainRows.{PlainRows}
use Rattle.gta_checked.specs.Plain.{PlainChecked}
use Rattle.gta_meaning.specs.InRange.{label_count, IsMarkInRange, IsInRange, IsInRangeOf}
use Rattle.gta_meaning.specs.Kept.{generated}

-- marks whose rows ascend strictly within lo..hi
abbrev Between : ℕ → ℕ → ℕ → List Mark → Type 0
Between lo hi labels [] = Unit {0}
Between lo hi labels (m ∷ ms) = (lo ≤ m.row) × (m.row < hi) × (m.label < labels) × Between (m.row + 1) hi labels ms

between-wider : (wide lo hi labels : ℕ) (ms : List Mark) → wide ≤ lo → Between lo hi labels ms
    → Between wide hi labels ms
between-wider wide lo hi labels [] low between = tt
between-wider wide lo hi labels (m ∷ ms) low between = (omega (arith, between.0), between.1, between.2, between.3)

between-each : (lo hi labels : ℕ) (ms : List Mark) → Between lo hi labels ms → All (IsMarkInRange hi labels) ms
between-each lo hi labels [] between = All-nil (IsMarkInRange hi labels)
between-each lo hi labels (m ∷ ms) between =
    All-cons (IsMarkInRange hi labels) m ms (record { row = between.1; label = between.2 })
    (between-each (m.row + 1) hi labels ms between.3)

between-ascends : (lo hi labels : ℕ) (ms : List Mark) → Between lo hi labels ms
    → IsStrictlyIncreasing (map (λ m. m.row) ms)
between-ascends lo hi labels [] between k in_list = absurd (omega arith)
between-ascends lo hi labels (m ∷ []) between k in_list = absurd (omega arith)
between-ascends lo hi labels (m ∷ (n ∷ ms)) between zero in_list = omega (arith, between.3.0)
between-ascends lo hi labels (m ∷ (n ∷ ms)) between (suc k) in_list =
    let rows = map (λ (x : Mark). x.row) (m ∷ (n ∷ ms)) in
    let next : suc (k + 1) ≡ suc k + 1 = omega arith in
    subst (λ i. get_or rows (suc k) 0 < get_or rows i 0) next
    (between-ascends (m.row + 1) hi labels (n ∷ ms) between.3 k (omega arith))

between-IsInRange : (hi labels : ℕ) (ms : List Mark) → Between 0 hi labels ms → IsInRange hi labels ms
between-IsInRange hi labels ms between =
    record { each = between-each 0 hi labels ms between; ascending = between-ascends 0 hi labels ms between }

range-below : (first count : ℕ) → All (λ i. (first ≤ i) × (i < first + count)) (range_with_len first count)
range-below first count k d below =
    let short : k < count = simp length-range_with_len at below in
    subst (λ i. (first ≤ i) × (i < first + count)) (sym (get_or-range_with_len first count k d short))
    (omega arith, omega arith)

all-flat_map : {A B : Type 0} (P : B → Type 0) (Q : A → Type 0) (f : A → List B) (xs : List A)
    → ((x : A) → Q x → All P (f x)) → All Q xs → All P (flat_map f xs)
all-flat_map P Q f [] each all = All-nil P
all-flat_map P Q f (x ∷ xs) each all =
    All-append P (f x) (flat_map f xs) (each x (All-head Q x xs all))
    (all-flat_map P Q f xs each (All-tail Q x xs all))

module _ (hi labels : ℕ) (some : 0 < labels) where
  abbrev From : ℕ → List Mark → Type 0
  From lo = Between lo hi labels

  run-between : (first count : ℕ) → first + count ≤ hi → From first (run first count)
  run-between first zero within = tt
  run-between first (suc count) within =
      (omega arith, omega arith, some, run-between (first + 1) count (omega arith))

  sublists-between : (first count : ℕ) → first + count ≤ hi → All (From first) (sublists first count)
  sublists-between first zero within = All-cons (From first) [] [] tt (All-nil (From first))
  sublists-between first (suc count) within =
      let rest = sublists-between (first + 1) count (omega arith) in
      let with_first : List Mark → List Mark = λ c. mark first 0 ∷ c in
      All-append (From first) (sublists (first + 1) count) (map with_first (sublists (first + 1) count))
      (All-weaker (From (first + 1)) (From first)
      (λ c h. between-wider first (first + 1) hi labels c (omega arith) h) (sublists (first + 1) count) rest)
      (All-map (From first) with_first (sublists (first + 1) count)
      (All-weaker (From (first + 1)) (λ c. From first (with_first c))
      (λ c h. (omega arith, omega arith, some, h)) (sublists (first + 1) count) rest))

  assignments-between : (first count : ℕ) → first + count ≤ hi → All (From first) (assignments labels first count)
  assignments-between first zero within = All-cons (From first) [] [] tt (All-nil (From first))
  assignments-between first (suc count) within =
      let rest = assignments-between (first + 1) count (omega arith) in
      all-flat_map (From first) (λ label. (0 ≤ label) × (label < 0 + labels))
      (λ label. map (λ c. mark first label ∷ c) (assignments labels (first + 1) count)) (range_with_len 0 labels)
      (λ label below. All-map (From first) (λ c. mark first label ∷ c) (assignments labels (first + 1) count)
      (All-weaker (From (first + 1)) (λ c. From first (mark first label ∷ c))
      (λ c h. (omega arith, omega arith, omega (arith, below.1), h)) (assignments labels (first + 1) count) rest))
      (range-below 0 labels)

  prefixes-between : (first count : ℕ) → first + count ≤ hi → All (From first) (prefixes first count)
  prefixes-between first count within =
      All-map (From first) (λ n. run first n) (range_with_len 1 count)
      (All-weaker (λ i. (1 ≤ i) × (i < 1 + count)) (λ n. From first (run first n))
      (λ n h. run-between first n (omega (arith, h.1))) (range_with_len 1 count) (range-below 1 count))

  segments-between : (first count : ℕ) → first + count ≤ hi → All (From first) (segments first count)
  segments-between first zero within = All-nil (From first)
  segments-between first (suc count) within =
      All-append (From first) (prefixes first (suc count)) (segments (first + 1) count)
      (prefixes-between first (suc count) within)
      (All-weaker (From (first + 1)) (From first)
      (λ c h. between-wider first (first + 1) hi labels c (omega arith) h) (segments (first + 1) count)
      (segments-between (first + 1) count (omega arith)))

  candidates-between : (shape : Shape) → All (From 0) (candidates shape hi labels)
  candidates-between Sublists = sublists-between 0 hi (omega arith)
  candidates-between Assign = assignments-between 0 hi (omega arith)
  candidates-between Prefixes =
      All-map (From 0) (λ n. run 0 n) (range_with_len 0 (hi + 1))
      (All-weaker (λ i. (0 ≤ i) × (i < 0 + (hi + 1))) (λ n. From 0 (run 0 n))
      (λ n h. run-between 0 n (omega (arith, h.1))) (range_with_len 0 (hi + 1)) (range-below 0 (hi + 1)))
  candidates-between Suffixes =
      All-map (From 0) (λ n. run (hi - n) n) (range_with_len 0 (hi + 1))
      (All-weaker (λ i. (0 ≤ i) × (i < 0 + (hi + 1))) (λ n. From 0 (run (hi - n) n))
      (λ n h. between-wider 0 (hi - n) hi labels (run (hi - n) n) (omega arith)
      (run-between (hi - n) n (omega (arith, h.1)))) (range_with_len 0 (hi + 1)) (range-below 0 (hi + 1)))
  candidates-between Segments =
      All-cons (From 0) [] (segments 0 hi) tt (segments-between 0 hi (omega arith))

pub generated-IsInRangeOf : (checked : PlainChecked) (rows : PlainRows)
    → All (IsInRangeOf checked rows) (generated checked rows)
generated-IsInRangeOf checked rows =
    let labels = label_count checked in
    All-weaker (Between 0 rows.count labels) (IsInRangeOf checked rows)
    (λ ms between. between-IsInRange rows.count labels ms between) (generated checked rows)
    (candidates-between rows.count labels (omega arith) checked.shape)
