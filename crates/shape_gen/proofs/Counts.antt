-- The numbers of candidates and of their marks.
use Rattle.std.proofs.Common.{◌⊎◌, inl, inr, Bool, true, false, ◌≡◌, refl, sym, ap, ◌∙◌, ℕ, zero, suc, ◌+◌, ◌-◌, ◌*◌}
use Rattle.std.proofs.Common.{◌<◌, ◌≤◌, min, List, [], ◌∷◌, ◌++◌, map, length, arith, length-append}
use Rattle.std.specs.Prelude.{nat_le}
use Rattle.std.proofs.Math.Nat.{mul-le-mul_left}
use Rattle.std.proofs.lemmas.List.{length-map, map-append}
use Rattle.std.proofs.lemmas.List.FromFn.{length-map-range_with_len, length-range_with_len}
use Rattle.std.proofs.lemmas.List.Sums.{sum_by-cons, sum_by-append}
use Rattle.std.specs.List.{range_with_len, flat_map}
use Rattle.shape_gen.specs.declared.mark.Mark.{Mark}
use Rattle.shape_gen.specs.declared.shape.Shape.{Shape}
use Rattle.shape_gen.specs.declared.shape.Shape.TheVariants.{Prefixes, Suffixes, Segments}
use Rattle.shape_gen.specs.Candidates.{candidates, mark, run, sublists, assignments, prefixes, suffixes, segments}
use Rattle.shape_gen.proofs.Lists.{range-append}
use Rattle.shape_gen.specs.Extents.{mark_count, triangle, pyramid}

mark_count-cons : (c : List Mark) (cs : List (List Mark)) → mark_count (c ∷ cs) ≡ length c + mark_count cs
mark_count-cons c cs = sum_by-cons length c cs

mark_count-append : (cs ds : List (List Mark)) → mark_count (cs ++ ds) ≡ mark_count cs + mark_count ds
mark_count-append cs ds = sum_by-append length cs ds

-- a mark before each candidate
mark_count-longer : (m : Mark) (cs : List (List Mark)) → mark_count (map (λ c. m ∷ c) cs) ≡ mark_count cs + length cs
mark_count-longer m [] = refl
mark_count-longer m (c ∷ cs) =
    let whole = mark_count-cons (m ∷ c) (map (λ c. m ∷ c) cs) in
    let rest = mark_count-longer m cs in
    let back = mark_count-cons c cs in
    omega (arith, whole, rest, back)

-- sublists

sublists-length : (first n : ℕ)
    → length (sublists first (suc n)) ≡ length (sublists (first + 1) n) + length (sublists (first + 1) n)
sublists-length first n =
    let rest = sublists (first + 1) n in
    length-append rest (map (λ c. mark first 0 ∷ c) rest)
    ∙ ap (λ k. length rest + k) (length-map rest (λ c. mark first 0 ∷ c))

sublists-marks : (first n : ℕ) → mark_count (sublists first (suc n))
    ≡ mark_count (sublists (first + 1) n) + (mark_count (sublists (first + 1) n) + length (sublists (first + 1) n))
sublists-marks first n =
    let rest = sublists (first + 1) n in
    mark_count-append rest (map (λ c. mark first 0 ∷ c) rest)
    ∙ ap (λ k. mark_count rest + k) (mark_count-longer (mark first 0) rest)

-- the numbers are the same from whichever row on
sublists-length-moved : (a b n : ℕ) → length (sublists a n) ≡ length (sublists b n)
sublists-length-moved a b zero = refl
sublists-length-moved a b (suc n) =
    let here = sublists-length a n in
    let there = sublists-length b n in
    let rest = sublists-length-moved (a + 1) (b + 1) n in
    omega (arith, here, there, rest)

sublists-marks-moved : (a b n : ℕ) → mark_count (sublists a n) ≡ mark_count (sublists b n)
sublists-marks-moved a b zero = refl
sublists-marks-moved a b (suc n) =
    let here = sublists-marks a n in
    let there = sublists-marks b n in
    let rest = sublists-marks-moved (a + 1) (b + 1) n in
    let lengths = sublists-length-moved (a + 1) (b + 1) n in
    omega (arith, here, there, rest, lengths)

-- assignments

labelled-length : (first : ℕ) (rest : List (List Mark)) (labels : List ℕ)
    → length (flat_map (λ label. map (λ c. mark first label ∷ c) rest) labels) ≡ length labels * length rest
labelled-length first rest [] = omega arith
labelled-length first rest (label ∷ labels) =
    let more = labelled-length first rest labels in
    let these = length-map rest (λ c. mark first label ∷ c) in
    let whole = length-append (map (λ c. mark first label ∷ c) rest)
    (flat_map (λ label. map (λ c. mark first label ∷ c) rest) labels) in
    omega (arith, more, these, whole)

labelled-marks : (first : ℕ) (rest : List (List Mark)) (labels : List ℕ)
    → mark_count (flat_map (λ label. map (λ c. mark first label ∷ c) rest) labels) ≡ length labels *
    (mark_count rest + length rest)
labelled-marks first rest [] = omega arith
labelled-marks first rest (label ∷ labels) =
    let more = labelled-marks first rest labels in
    let these = mark_count-longer (mark first label) rest in
    let whole = mark_count-append (map (λ c. mark first label ∷ c) rest)
    (flat_map (λ label. map (λ c. mark first label ∷ c) rest) labels) in
    omega (arith, more, these, whole)

assignments-length : (labels first n : ℕ)
    → length (assignments labels first (suc n)) ≡ labels * length (assignments labels (first + 1) n)
assignments-length labels first n =
    let rest = assignments labels (first + 1) n in
    labelled-length first rest (range_with_len 0 labels) ∙ ap (λ k. k * length rest) (length-range_with_len 0 labels)

assignments-marks : (labels first n : ℕ) → mark_count (assignments labels first (suc n))
    ≡ labels * (mark_count (assignments labels (first + 1) n) + length (assignments labels (first + 1) n))
assignments-marks labels first n =
    let rest = assignments labels (first + 1) n in
    labelled-marks first rest (range_with_len 0 labels)
    ∙ ap (λ k. k * (mark_count rest + length rest)) (length-range_with_len 0 labels)

assignments-length-moved : (labels a b n : ℕ) → length (assignments labels a n) ≡ length (assignments labels b n)
assignments-length-moved labels a b zero = refl
assignments-length-moved labels a b (suc n) =
    assignments-length labels a n ∙ ap (λ k. labels * k) (assignments-length-moved labels (a + 1) (b + 1) n)
    ∙ sym (assignments-length labels b n)

assignments-marks-moved : (labels a b n : ℕ) → mark_count (assignments labels a n) ≡ mark_count (assignments labels b n)
assignments-marks-moved labels a b zero = refl
assignments-marks-moved labels a b (suc n) =
    let lengths = assignments-length-moved labels (a + 1) (b + 1) n in
    let marks = assignments-marks-moved labels (a + 1) (b + 1) n in
    let both : mark_count (assignments labels (a + 1) n) + length (assignments labels (a + 1) n)
    ≡ mark_count (assignments labels (b + 1) n) + length (assignments labels (b + 1) n) = omega
    (arith, lengths, marks) in
    assignments-marks labels a n ∙ ap (λ k. labels * k) both ∙ sym (assignments-marks labels b n)

-- runs

run-length : (first n : ℕ) → length (run first n) ≡ n
run-length first n = length-map-range_with_len (λ row. mark row 0) first n

-- lists of each length from 1 to n
runs-marks : (f : ℕ → List Mark) → ((n : ℕ) → length (f n) ≡ n) → (n : ℕ)
    → mark_count (map f (range_with_len 1 n)) ≡ triangle n
runs-marks f lengths zero = refl
runs-marks f lengths (suc n) =
    let longer : suc n ≡ n + 1 = omega arith in
    let split : map f (range_with_len 1 (suc n)) ≡ map f (range_with_len 1 n) ++ map f (range_with_len (1 + n) 1) =
    ap (λ k. map f (range_with_len 1 k)) longer ∙ ap (map f) (range-append 1 n 1)
    ∙ map-append f (range_with_len 1 n) (range_with_len (1 + n) 1) in
    let whole = ap mark_count split
    ∙ mark_count-append (map f (range_with_len 1 n)) (map f (range_with_len (1 + n) 1)) in
    let last = mark_count-cons (f (1 + n)) [] in
    let size = lengths (1 + n) in
    let rest = runs-marks f lengths n in
    omega (arith, whole, last, size, rest)

prefixes-marks : (first n : ℕ) → mark_count (prefixes first n) ≡ triangle n
prefixes-marks first n = runs-marks (run first) (run-length first) n

prefixes-length : (first n : ℕ) → length (prefixes first n) ≡ n
prefixes-length first n = length-map-range_with_len (run first) 1 n

suffixes-marks : (first n : ℕ) → mark_count (suffixes first n) ≡ triangle n
suffixes-marks first n =
    runs-marks (λ length. run (first + n - length) length) (λ k. run-length (first + n - k) k) n

suffixes-length : (first n : ℕ) → length (suffixes first n) ≡ n
suffixes-length first n = length-map-range_with_len (λ length. run (first + n - length) length) 1 n

segments-length : (first n : ℕ) → length (segments first n) ≡ triangle n
segments-length first zero = refl
segments-length first (suc n) =
    let whole = length-append (prefixes first (suc n)) (segments (first + 1) n) in
    let these = prefixes-length first (suc n) in
    let rest = segments-length (first + 1) n in
    omega (arith, whole, these, rest)

segments-marks : (first n : ℕ) → mark_count (segments first n) ≡ pyramid n
segments-marks first zero = refl
segments-marks first (suc n) =
    let whole = mark_count-append (prefixes first (suc n)) (segments (first + 1) n) in
    let these = prefixes-marks first (suc n) in
    let rest = segments-marks (first + 1) n in
    omega (arith, whole, these, rest)

-- triangles and pyramids as products

pub triangle-product : (n : ℕ) → 2 * triangle n ≡ n * (n + 1)
triangle-product zero = refl
triangle-product (suc n) = let rest = triangle-product n in omega (arith, rest)

pub pyramid-product : (n : ℕ) → 6 * pyramid n ≡ n * (n + 1) * (n + 2)
pyramid-product zero = refl
pyramid-product (suc n) =
    let rest = pyramid-product n in
    let here = triangle-product (suc n) in
    omega (arith, rest, here)

-- candidates of runs

runs-marks-from-none : (f : ℕ → List Mark) → ((n : ℕ) → length (f n) ≡ n) → (n : ℕ)
    → mark_count (map f (range_with_len 0 (n + 1))) ≡ triangle n
runs-marks-from-none f lengths n =
    let more : n + 1 ≡ suc n = omega arith in
    let first = mark_count-cons (f 0) (map f (range_with_len 1 n)) in
    let empty = lengths 0 in
    let rest = runs-marks f lengths n in
    ap (λ k. mark_count (map f (range_with_len 0 k))) more ∙ omega (arith, first, empty, rest)

candidates_of_prefixes-length : (n labels : ℕ) → length (candidates Prefixes n labels) ≡ n + 1
candidates_of_prefixes-length n labels = length-map-range_with_len (run 0) 0 (n + 1)

candidates_of_prefixes-marks : (n labels : ℕ) → mark_count (candidates Prefixes n labels) ≡ triangle n
candidates_of_prefixes-marks n labels = runs-marks-from-none (run 0) (run-length 0) n

candidates_of_suffixes-length : (n labels : ℕ) → length (candidates Suffixes n labels) ≡ n + 1
candidates_of_suffixes-length n labels = length-map-range_with_len (λ length. run (n - length) length) 0 (n + 1)

candidates_of_suffixes-marks : (n labels : ℕ) → mark_count (candidates Suffixes n labels) ≡ triangle n
candidates_of_suffixes-marks n labels =
    runs-marks-from-none (λ length. run (n - length) length) (λ k. run-length (n - k) k) n

pub candidates_of_segments-length : (n labels : ℕ) → length (candidates Segments n labels) ≡ 1 + triangle n
candidates_of_segments-length n labels = let rest = segments-length 0 n in omega (arith, rest)

pub candidates_of_segments-marks : (n labels : ℕ) → mark_count (candidates Segments n labels) ≡ pyramid n
candidates_of_segments-marks n labels =
    let whole = mark_count-cons [] (segments 0 n) in
    let rest = segments-marks 0 n in
    omega (arith, whole, rest)

-- prefixes and suffixes alike

pub candidates_of_ends-length : (shape : Shape) (n labels : ℕ) → (shape ≡ Prefixes) ⊎ (shape ≡ Suffixes)
    → length (candidates shape n labels) ≡ n + 1
candidates_of_ends-length shape n labels (inl is) = rw is (candidates_of_prefixes-length n labels)
candidates_of_ends-length shape n labels (inr is) = rw is (candidates_of_suffixes-length n labels)

pub candidates_of_ends-marks : (shape : Shape) (n labels : ℕ) → (shape ≡ Prefixes) ⊎ (shape ≡ Suffixes)
    → mark_count (candidates shape n labels) ≡ triangle n
candidates_of_ends-marks shape n labels (inl is) = rw is (candidates_of_prefixes-marks n labels)
candidates_of_ends-marks shape n labels (inr is) = rw is (candidates_of_suffixes-marks n labels)

-- one row more, from the first row on

pub sublists-length-more : (n : ℕ) → length (sublists 0 (n + 1)) ≡ length (sublists 0 n) + length (sublists 0 n)
sublists-length-more n =
    let more : n + 1 ≡ suc n = omega arith in
    let here = sublists-length 0 n in
    let moved = sublists-length-moved (0 + 1) 0 n in
    ap (λ k. length (sublists 0 k)) more ∙ omega (arith, here, moved)

pub sublists-marks-more : (n : ℕ)
    → mark_count (sublists 0 (n + 1)) ≡ mark_count (sublists 0 n) + mark_count (sublists 0 n) + length (sublists 0 n)
sublists-marks-more n =
    let more : n + 1 ≡ suc n = omega arith in
    let here = sublists-marks 0 n in
    let moved = sublists-marks-moved (0 + 1) 0 n in
    let lengths = sublists-length-moved (0 + 1) 0 n in
    ap (λ k. mark_count (sublists 0 k)) more ∙ omega (arith, here, moved, lengths)

pub assignments-length-more : (labels n : ℕ)
    → length (assignments labels 0 (n + 1)) ≡ labels * length (assignments labels 0 n)
assignments-length-more labels n =
    let more : n + 1 ≡ suc n = omega arith in
    ap (λ k. length (assignments labels 0 k)) more ∙ assignments-length labels 0 n
    ∙ ap (λ k. labels * k) (assignments-length-moved labels (0 + 1) 0 n)

pub assignments-marks-more : (labels n : ℕ)
    → mark_count (assignments labels 0 (n + 1)) ≡ labels *
    (mark_count (assignments labels 0 n) + length (assignments labels 0 n))
assignments-marks-more labels n =
    let more : n + 1 ≡ suc n = omega arith in
    let lengths = assignments-length-moved labels (0 + 1) 0 n in
    let marks = assignments-marks-moved labels (0 + 1) 0 n in
    let both : mark_count (assignments labels (0 + 1) n) + length (assignments labels (0 + 1) n)
    ≡ mark_count (assignments labels 0 n) + length (assignments labels 0 n) = omega (arith, lengths, marks) in
    ap (λ k. mark_count (assignments labels 0 k)) more ∙ assignments-marks labels 0 n ∙ ap (λ k. labels * k) both

-- a product of a number that is cut is cut in the same way
pub cut-product : (cap factor a x : ℕ) → 1 ≤ factor → x ≡ min a cap → min (x * factor) cap ≡ min (factor * a) cap
cut-product cap factor a x some is =
    by_test (nat_le a cap)
    (λ t. let whole : x ≡ a = grind (arith, t, is) in ap (λ k. min (k * factor) cap) whole ∙ omega arith)
    (λ f. let past : cap < a = grind (arith, f) in
    let at_cap : x ≡ cap = omega (arith, past, is) in
    let here : cap * 1 ≤ cap * factor = mul-le-mul_left cap some in
    let there : a * 1 ≤ a * factor = mul-le-mul_left a some in
    ap (λ k. min (k * factor) cap) at_cap ∙ omega (arith, past, here, there))
  where
    by_test : {A : Type 0} (b : Bool) → (b ≡ true → A) → (b ≡ false → A) → A
    by_test true t f = t refl
    by_test false t f = f refl
