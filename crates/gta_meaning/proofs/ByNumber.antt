-- The candidate of a number in the list of a shape.
use Rattle.std.proofs.Common.{Bool, true, false, ◌≡◌, ℕ, zero, suc, ◌+◌, ◌-◌, ◌*◌, ◌/◌, ◌%◌, ◌<◌, ◌≤◌, List, [], ◌∷◌}
use Rattle.std.proofs.Common.{◌++◌, map, length, get_or, refl, sym, ap, ◌∙◌, append_assoc, arith}
use Rattle.std.proofs.Common.{◌⊎◌, take}
use Rattle.std.specs.List.{filter, flat_map, range_with_len}
use Rattle.std.proofs.lemmas.List.{take_more}
use Rattle.std.proofs.lemmas.List.Elements.{filter-append}
use Rattle.shape_gen.specs.declared.shape.Shape.{Shape}
use Rattle.shape_gen.specs.declared.shape.Shape.TheVariants.{Prefixes, Suffixes}
use Rattle.shape_gen.proofs.Counts.{candidates_of_ends-length}
use Rattle.std.specs.Prelude.{nat_lt}
use Rattle.std.proofs.Math.Nat.{add-div_right, add-mod_right, div-eq_of_lt, lt_of_mul-lt-mul_left, mod-eq_of_lt}
use Rattle.std.proofs.Math.Nat.{mod-lt, mul-div-le, mul-div_cancel_left}
use Rattle.std.proofs.lemmas.List.{append-nil, get_or_append_left, get_or-append_right, get_or-map, length-append}
use Rattle.std.proofs.lemmas.List.{length-map}
use Rattle.std.proofs.lemmas.List.FromFn.{get_or-map-range_with_len, get_or-range_with_len, length-map-range_with_len}
use Rattle.std.proofs.lemmas.List.FromFn.{length-range_with_len}
use Rattle.shape_gen.specs.declared.mark.Mark.{Mark}
use Rattle.shape_gen.specs.Candidates.{candidates, mark, run, sublists, assignments, prefixes, segments}

pub sublists-halves : (first n : ℕ)
    → length (sublists first (suc n)) ≡ length (sublists (first + 1) n) + length (sublists (first + 1) n)
sublists-halves first n =
    let rest = sublists (first + 1) n in
    length-append rest (map (λ c. mark first 0 ∷ c) rest)
    ∙ ap (λ k. length rest + k) (length-map rest (λ c. mark first 0 ∷ c))

pub sublist-without : (first n i : ℕ) → i < length (sublists (first + 1) n)
    → get_or (sublists first (suc n)) i [] ≡ get_or (sublists (first + 1) n) i []
sublist-without first n i below =
    let rest = sublists (first + 1) n in
    get_or_append_left rest (map (λ c. mark first 0 ∷ c) rest) [] i below

pub sublist-with : (first n i : ℕ) → length (sublists (first + 1) n) ≤ i → i < length (sublists first (suc n))
    → get_or (sublists first (suc n)) i []
    ≡ mark first 0 ∷ get_or (sublists (first + 1) n) (i - length (sublists (first + 1) n)) []
sublist-with first n i past below =
    let rest = sublists (first + 1) n in
    let halves = sublists-halves first n in
    get_or-append_right rest (map (λ c. mark first 0 ∷ c) rest) (length rest) i [] refl past
    ∙ get_or-map (λ c. mark first 0 ∷ c) rest (i - length rest) [] [] (omega arith)

-- the runs that begin with the first row, and those behind

pub segments-length-more : (first n : ℕ)
    → length (segments first (suc n)) ≡ suc n + length (segments (first + 1) n)
segments-length-more first n =
    length-append (prefixes first (suc n)) (segments (first + 1) n)
    ∙ ap (λ k. k + length (segments (first + 1) n)) (length-map-range_with_len (run first) 1 (suc n))

pub segment-first : (first n i : ℕ) → i < suc n → get_or (segments first (suc n)) i [] ≡ run first (i + 1)
segment-first first n i below =
    let long = length-map-range_with_len (run first) 1 (suc n) in
    get_or_append_left (prefixes first (suc n)) (segments (first + 1) n) [] i (omega arith)
    ∙ get_or-map-range_with_len (run first) 1 (suc n) i (i + 1) [] below (omega arith)

pub segment-behind : (first n i : ℕ) → suc n ≤ i
    → get_or (segments first (suc n)) i [] ≡ get_or (segments (first + 1) n) (i - suc n) []
segment-behind first n i past =
    get_or-append_right (prefixes first (suc n)) (segments (first + 1) n) (suc n) i []
    (length-map-range_with_len (run first) 1 (suc n)) past

-- assignments: a piece for each label, all of one length

by_test : {A : Type 0} (b : Bool) → (b ≡ true → A) → (b ≡ false → A) → A
by_test true t f = t refl
by_test false t f = f refl

positive_right : (a b i : ℕ) → i < a * b → 0 < b
positive_right a zero i below = absurd (omega (arith, below))
positive_right a (suc b) i below = omega arith

positive_left : (a b i : ℕ) → i < a * b → 0 < a
positive_left zero b i below = absurd (omega (arith, below))
positive_left (suc a) b i below = omega arith

abbrev piece : ℕ → List (List Mark) → ℕ → List (List Mark)
piece row behind label = map (λ c. mark row label ∷ c) behind

pieces-length : (row : ℕ) (behind : List (List Mark)) (labels : List ℕ)
    → length (flat_map (piece row behind) labels) ≡ length labels * length behind
pieces-length row behind [] = omega arith
pieces-length row behind (label ∷ labels) =
    let more = pieces-length row behind labels in
    let these = length-map behind (λ c. mark row label ∷ c) in
    let whole = length-append (piece row behind label) (flat_map (piece row behind) labels) in
    omega (arith, more, these, whole)

pieces-at : (row : ℕ) (behind : List (List Mark)) (labels : List ℕ) (i : ℕ) → i < length labels * length behind
    → get_or (flat_map (piece row behind) labels) i []
    ≡ mark row (get_or labels (i / length behind) 0) ∷ get_or behind (i % length behind) []
pieces-at row behind [] i below = absurd (omega (arith, below))
pieces-at row behind (label ∷ labels) i below =
    let each = length behind in
    let some = positive_right (suc (length labels)) each i below in
    let these = length-map behind (λ c. mark row label ∷ c) in
    by_test (nat_lt i each)
    (λ t.
    let inside : i < each = grind (arith, t) in
    let none : i / each ≡ 0 = div-eq_of_lt inside in
    let same : i % each ≡ i = mod-eq_of_lt inside in
    get_or_append_left (piece row behind label) (flat_map (piece row behind) labels) [] i (omega arith)
    ∙ get_or-map (λ c. mark row label ∷ c) behind i [] [] inside
    ∙ rw (none, same) refl)
    (λ f.
    let past : each ≤ i = grind (arith, f) in
    let j = i - each in
    let split : j + each ≡ i = omega arith in
    let next : i / each ≡ suc (j / each) =
    ap (λ k. k / each) (sym split) ∙ add-div_right j some ∙ omega arith in
    let same : i % each ≡ j % each = ap (λ k. k % each) (sym split) ∙ add-mod_right j each in
    get_or-append_right (piece row behind label) (flat_map (piece row behind) labels) each i [] these past
    ∙ pieces-at row behind labels j (omega (arith, below, split))
    ∙ rw (next, same) refl)

-- one row of an assignment by its number, where the rows behind it have `behind` assignments
pub record IsLabelOf (labels row m behind i : ℕ) : Type 0 where
  pub some_labels : 0 < labels
  pub each : behind / labels ≡ length (assignments labels (row + 1) m)
  pub some : 0 < behind / labels
  pub label : i / (behind / labels) < labels
  pub rest : i % (behind / labels) < behind / labels
  pub at : get_or (assignments labels row (suc m)) i []
      ≡ mark row (i / (behind / labels)) ∷ get_or (assignments labels (row + 1) m) (i % (behind / labels)) []

pub label-of : (labels row m behind i : ℕ) → behind ≡ length (assignments labels row (suc m)) → i < behind
    → IsLabelOf labels row m behind i
label-of labels row m behind i is below =
    let each = length (assignments labels (row + 1) m) in
    let numbers = range_with_len 0 labels in
    let counted = length-range_with_len 0 labels in
    let long : behind ≡ labels * each = is ∙ pieces-length row (assignments labels (row + 1) m) numbers
    ∙ ap (λ k. k * each) counted in
    let inside : i < labels * each = omega (arith, long, below) in
    let some_labels = positive_left labels each i inside in
    let some = positive_right labels each i inside in
    let whole : behind / labels ≡ each = ap (λ k. k / labels) long ∙ mul-div_cancel_left each some_labels in
    let few : i / each < labels = lt_of_mul-lt-mul_left each (let h = mul-div-le i each in omega (arith, h, inside)) in
    let read : get_or numbers (i / each) 0 ≡ i / each = get_or-range_with_len 0 labels (i / each) 0 few ∙ omega arith in
    record {
      some_labels = some_labels;
      each = whole;
      some = rw whole some;
      label = rw whole few;
      rest = rw whole (mod-lt i some);
      at = rw whole
          (pieces-at row (assignments labels (row + 1) m) numbers i (rw counted inside)
          ∙ ap (λ label. mark row label ∷ get_or (assignments labels (row + 1) m) (i % each) []) read);
    }

-- the same at a row of a loop over the rows

module _ (rows row : ℕ) (within : row < rows) where
  count_more : rows - row ≡ suc (rows - (row + 1))
  count_more = omega arith

  pub sublists-halves-at : length (sublists row (rows - row))
      ≡ length (sublists (row + 1) (rows - (row + 1))) + length (sublists (row + 1) (rows - (row + 1)))
  sublists-halves-at = ap (λ n. length (sublists row n)) count_more ∙ sublists-halves row (rows - (row + 1))

  pub sublist-without-at : (i : ℕ) → i < length (sublists (row + 1) (rows - (row + 1)))
      → get_or (sublists row (rows - row)) i [] ≡ get_or (sublists (row + 1) (rows - (row + 1))) i []
  sublist-without-at i below =
      ap (λ n. get_or (sublists row n) i []) count_more ∙ sublist-without row (rows - (row + 1)) i below

  pub sublist-with-at : (i : ℕ) → length (sublists (row + 1) (rows - (row + 1))) ≤ i
      → i < length (sublists row (rows - row))
      → get_or (sublists row (rows - row)) i []
      ≡ mark row 0 ∷ get_or (sublists (row + 1) (rows - (row + 1)))
      (i - length (sublists (row + 1) (rows - (row + 1)))) []
  sublist-with-at i past below =
      let whole = ap (λ n. length (sublists row n)) count_more in
      ap (λ n. get_or (sublists row n) i []) count_more
      ∙ sublist-with row (rows - (row + 1)) i past (omega (arith, below, whole))

  pub segments-length-at : length (segments row (rows - row)) ≡ (rows - row) + length
      (segments (row + 1) (rows - (row + 1)))
  segments-length-at =
      ap (λ n. length (segments row n)) count_more ∙ segments-length-more row (rows - (row + 1)) ∙ omega arith

  pub segment-first-at : (i : ℕ) → i < rows - row → get_or (segments row (rows - row)) i [] ≡ run row (i + 1)
  segment-first-at i below =
      ap (λ n. get_or (segments row n) i []) count_more ∙ segment-first row (rows - (row + 1)) i (omega arith)

  pub segment-behind-at : (i : ℕ) → rows - row ≤ i
      → get_or (segments row (rows - row)) i [] ≡ get_or (segments (row + 1) (rows - (row + 1))) (i - (rows - row)) []
  segment-behind-at i past =
      ap (λ n. get_or (segments row n) i []) count_more
      ∙ segment-behind row (rows - (row + 1)) i (omega arith)
      ∙ ap (λ k. get_or (segments (row + 1) (rows - (row + 1))) (i - k) []) (sym count_more)

  pub label-of-at : (labels behind i : ℕ) → behind ≡ length (assignments labels row (rows - row)) → i < behind
      → IsLabelOf labels row (rows - (row + 1)) behind i
  label-of-at labels behind i is below =
      label-of labels row (rows - (row + 1)) behind i (is ∙ ap (λ n. length (assignments labels row n)) count_more)
      below

  pub assignment-at : (labels behind i : ℕ) → (here : IsLabelOf labels row (rows - (row + 1)) behind i)
      → get_or (assignments labels row (rows - row)) i []
      ≡ mark row (i / (behind / labels)) ∷ get_or (assignments labels (row + 1) (rows - (row + 1)))
      (i % (behind / labels)) []
  assignment-at labels behind i here = ap (λ n. get_or (assignments labels row n) i []) count_more ∙ here.at

-- a mark behind the marks so far
pub further : (marks front rest whole : List Mark) (m : Mark) → whole ≡ front ++ marks → marks ≡ m ∷ rest
    → whole ≡ (front ++ m ∷ []) ++ rest
further marks front rest whole m so_far is =
    so_far ∙ ap (λ ms. front ++ ms) is ∙ sym (append_assoc front (m ∷ []) rest)

-- prefixes and suffixes, by their length

pub end-number : (shape : Shape) (rows labels count number : ℕ) → (shape ≡ Prefixes) ⊎ (shape ≡ Suffixes)
    → count ≡ length (candidates shape rows labels) → number < count → number ≤ rows
end-number shape rows labels count number is counted below =
    let long = candidates_of_ends-length shape rows labels is in omega (arith, long, counted, below)

pub prefix-at : (rows number : ℕ) → number ≤ rows
    → get_or (map (λ length. run 0 length) (range_with_len 0 (rows + 1))) number [] ≡ run 0 number
prefix-at rows number within =
    get_or-map-range_with_len (run 0) 0 (rows + 1) number number [] (omega arith) (omega arith)

pub suffix-at : (rows number : ℕ) → number ≤ rows
    → get_or (map (λ length. run (rows - length) length) (range_with_len 0 (rows + 1))) number [] ≡ run
    (rows - number) number
suffix-at rows number within =
    get_or-map-range_with_len (λ length. run (rows - length) length) 0 (rows + 1) number number [] (omega arith)
    (omega arith)

-- the items that pass a test, one more looked at

pub filter-kept : {A : Type 0} (p : A → Bool) (xs : List A) (i : ℕ) (d : A) → i < length xs → p (get_or xs i d) ≡ true
    → filter p (take (i + 1) xs) ≡ filter p (take i xs) ++ get_or xs i d ∷ []
filter-kept p xs i d below holds =
    ap (filter p) (take_more xs i d below) ∙ filter-append p (take i xs) (get_or xs i d ∷ []) ∙ rw holds refl

pub filter-dropped : {A : Type 0} (p : A → Bool) (xs : List A) (i : ℕ) (d : A) → i < length xs
    → p (get_or xs i d) ≡ false
    → filter p (take (i + 1) xs) ≡ filter p (take i xs)
filter-dropped p xs i d below fails =
    ap (filter p) (take_more xs i d below) ∙ filter-append p (take i xs) (get_or xs i d ∷ [])
    ∙ rw fails (append-nil (filter p (take i xs)))
