-- Runs of elements, each at the key next to the one before: what they have at a key, and sums over the places of a
-- span.
use Rattle.std.proofs.Common.{◌≡◌, ℕ, zero, suc, ◌+◌, ◌<◌, ◌≤◌, List, [], ◌∷◌, ◌++◌, length, get_or, take, drop, map}
use Rattle.std.proofs.Common.{All, nat_eq, inl, inr, refl, sym, ap, ◌∙◌, arith}
use Rattle.std.specs.List.{range_with_len}
use Rattle.std.specs.Simd.Lanes.{zip2}
use Rattle.std.proofs.lemmas.Bool.{cases_eq, eq-eqb, ne_eqb}
use Rattle.std.proofs.lemmas.List.{drop_more}
use Rattle.std.proofs.lemmas.List.Elements.{All-head, All-tail}
use Rattle.monoid_kit.proofs.Products.{only-product_by, only-is_element}
use Rattle.semiring_kit.specs.Semiring.{SemiringOn, IsSemiring}
use Rattle.semiring_kit.specs.Total.{masked, total}
use Rattle.semiring_kit.proofs.Sums.{mul-total, total-is_sound}
use Rattle.lane_rows.specs.Lanes.{add_times}
use Rattle.lane_rows.specs.Rows.{run_at}

nat_eq-next : (to next k : ℕ) → next ≡ suc to → nat_eq next (suc k) ≡ nat_eq to k
nat_eq-next to next k is = elim (cases_eq to k) [
  | inl same ↦ eq-eqb next (suc k) (omega arith) ∙ sym (eq-eqb to k same)
  | inr other ↦ ne_eqb next (suc k) (λ same. other (omega arith)) ∙ sym (ne_eqb to k other)
]

module _ {E : Type 0} {r : SemiringOn E} (laws : IsSemiring r) where
  zero_sound : r.is_sound r.zero
  zero_sound = laws.addition.monoid.unit_is_element

  add-zero_right : (a : E) → r.is_sound a → r.add a r.zero ≡ a
  add-zero_right a sound = laws.addition.monoid.right_identity a sound

  -- what runs have at a key

  run-before : (to k : ℕ) (xs : List E) → k < to → run_at r to xs k ≡ r.zero
  run-before to k [] before = refl
  run-before to k (x ∷ xs) before =
      ap (λ t. r.add (masked r t x) (run_at r (to + 1) xs k)) (ne_eqb to k (λ same. absurd (omega arith)))
      ∙ ap (r.add r.zero) (run-before (to + 1) k xs (omega arith))
      ∙ add-zero_right r.zero zero_sound

  run-next : (to next k : ℕ) (xs : List E) → next ≡ suc to → run_at r next xs (suc k) ≡ run_at r to xs k
  run-next to next k [] is = refl
  run-next to next k (x ∷ xs) is =
      ap (λ t. r.add (masked r t x) (run_at r (next + 1) xs (suc k))) (nat_eq-next to next k is)
      ∙ ap (r.add (masked r (nat_eq to k) x)) (run-next (to + 1) (next + 1) k xs (omega arith))

  run-zero : (x : E) (xs : List E) → r.is_sound x → run_at r 0 (x ∷ xs) 0 ≡ x
  run-zero x xs sound =
      ap (r.add x) (run-before (0 + 1) 0 xs (omega arith)) ∙ add-zero_right x sound

  run-later : (k : ℕ) (x : E) (xs : List E) → r.is_sound (run_at r 0 xs k)
      → run_at r 0 (x ∷ xs) (suc k) ≡ run_at r 0 xs k
  run-later k x xs sound =
      ap (λ t. r.add (masked r t x) (run_at r (0 + 1) xs (suc k))) (ne_eqb 0 (suc k) (λ same. absurd (omega arith)))
      ∙ ap (r.add r.zero) (run-next 0 (0 + 1) k xs (omega arith))
      ∙ laws.addition.monoid.left_identity (run_at r 0 xs k) sound

  pub run-is_sound : (to k : ℕ) (xs : List E) → All r.is_sound xs → r.is_sound (run_at r to xs k)
  run-is_sound to k [] sound = zero_sound
  run-is_sound to k (x ∷ xs) sound =
      laws.addition.monoid.product_is_element (masked r (nat_eq to k) x) (run_at r (to + 1) xs k)
      (only-is_element laws.addition.monoid (nat_eq to k) x (All-head r.is_sound x xs sound))
      (run-is_sound (to + 1) k xs (All-tail r.is_sound x xs sound))

  pub get_or-is_sound : (xs : List E) (k : ℕ) → All r.is_sound xs → r.is_sound (get_or xs k r.zero)
  get_or-is_sound [] k sound = zero_sound
  get_or-is_sound (x ∷ xs) zero sound = All-head r.is_sound x xs sound
  get_or-is_sound (x ∷ xs) (suc k) sound = get_or-is_sound xs k (All-tail r.is_sound x xs sound)

  -- a list to which a run is added

  lifted_from_first : (olds xs : List E) (k : ℕ) → length xs ≤ length olds → All r.is_sound olds → All r.is_sound xs
      → get_or (zip2 r.add (take (length xs) olds) xs ++ drop (length xs) olds) k r.zero
      ≡ r.add (get_or olds k r.zero) (run_at r 0 xs k)
  lifted_from_first olds [] k within olds_sound xs_sound =
      sym (add-zero_right (get_or olds k r.zero) (get_or-is_sound olds k olds_sound))
  lifted_from_first [] (x ∷ xs) k within olds_sound xs_sound = absurd (omega arith)
  lifted_from_first (o ∷ os) (x ∷ xs) zero within olds_sound xs_sound =
      ap (r.add o) (sym (run-zero x xs (All-head r.is_sound x xs xs_sound)))
  lifted_from_first (o ∷ os) (x ∷ xs) (suc k) within olds_sound xs_sound =
      let later = All-tail r.is_sound x xs xs_sound in
      lifted_from_first os xs k (omega arith) (All-tail r.is_sound o os olds_sound) later
      ∙ ap (r.add (get_or os k r.zero)) (sym (run-later k x xs (run-is_sound 0 k xs later)))

  pub lifted-get_or : (to : ℕ) (olds xs : List E) (k : ℕ) → to + length xs ≤ length olds → All r.is_sound olds
      → All r.is_sound xs
      → get_or (take to olds ++ (zip2 r.add (take (length xs) (drop to olds)) xs ++ drop (length xs) (drop to olds))) k
      r.zero
      ≡ r.add (get_or olds k r.zero) (run_at r to xs k)
  lifted-get_or zero olds xs k within olds_sound xs_sound =
      lifted_from_first olds xs k (omega arith) olds_sound xs_sound
  lifted-get_or (suc to) [] xs k within olds_sound xs_sound = absurd (omega arith)
  lifted-get_or (suc to) (o ∷ os) xs zero within olds_sound xs_sound =
      sym (add-zero_right o (All-head r.is_sound o os olds_sound))
      ∙ ap (r.add o) (sym (run-before (suc to) 0 xs (omega arith)))
  lifted-get_or (suc to) (o ∷ os) xs (suc k) within olds_sound xs_sound =
      lifted-get_or to os xs k (omega arith) (All-tail r.is_sound o os olds_sound) xs_sound
      ∙ ap (r.add (get_or os k r.zero)) (sym (run-next to (suc to) k xs refl))

  -- sums over places

  -- over places that rise together
  pub total-rising : (f : ℕ → E) (to low n k : ℕ)
      → total r (λ i. masked r (nat_eq (to + i) k) (f i)) (range_with_len low n)
      ≡ run_at r (to + low) (map f (range_with_len low n)) k
  total-rising f to low zero k = refl
  total-rising f to low (suc n) k =
      ap (r.add (masked r (nat_eq (to + low) k) (f low))) (total-rising f to (low + 1) n k
      ∙ (let next : to + (low + 1) ≡ to + low + 1 = omega arith in
      ap (λ j. run_at r j (map f (range_with_len (low + 1) n)) k) next))

  -- over places that all go to one
  pub total-folded : (f : ℕ → E) (x : E) (to n k : ℕ) → r.is_sound x → ((i : ℕ) → r.is_sound (f i))
      → total r (λ i. masked r (nat_eq to k) (r.mul x (f i))) (range_with_len 0 n)
      ≡ run_at r to (r.mul x (total r f (range_with_len 0 n)) ∷ []) k
  total-folded f x to n k x_sound f_sound =
      let places = range_with_len 0 n in
      let sum = total r f places in
      let sum_sound = total-is_sound laws f places (λ i i_in. f_sound i) in
      sym (only-product_by laws.addition.monoid (nat_eq to k) (λ i. r.mul x (f i)) places)
      ∙ ap (masked r (nat_eq to k)) (sym (mul-total laws x f places x_sound (λ i i_in. f_sound i)))
      ∙ sym (add-zero_right (masked r (nat_eq to k) (r.mul x sum))
      (only-is_element laws.addition.monoid (nat_eq to k) (r.mul x sum)
      (laws.multiplication.product_is_element x sum x_sound sum_sound)))

  pub total-moved : (f : ℕ → E) (low n : ℕ)
      → total r (λ i. f (low + i)) (range_with_len 0 n) ≡ total r f (range_with_len low n)
  total-moved f low n = by_shift 0 low n (omega arith)
    where
      by_shift : (at from m : ℕ) → from ≡ low + at
          → total r (λ i. f (low + i)) (range_with_len at m) ≡ total r f (range_with_len from m)
      by_shift at from zero is = refl
      by_shift at from (suc m) is =
          ap (λ j. r.add (f j) (total r (λ i. f (low + i)) (range_with_len (at + 1) m))) (sym is)
          ∙ ap (r.add (f from)) (by_shift (at + 1) (from + 1) m (omega arith))

-- the elements of a part of a list, by their places
part-map : {E F : Type 0} (g : E → F) (ys : List E) (d : E) (from at n : ℕ) → from + at + n ≤ length ys
    → map (λ i. g (get_or ys (from + i) d)) (range_with_len at n) ≡ map g (take n (drop (from + at) ys))
part-map g ys d from at zero within = refl
part-map g ys d from at (suc n) within =
    let next : from + (at + 1) ≡ from + at + 1 = omega arith in
    ap (λ es. g (get_or ys (from + at) d) ∷ es) (part-map g ys d from (at + 1) n (omega arith)
    ∙ ap (λ j. map g (take n (drop j ys))) next)
    ∙ ap (λ es. map g (take (suc n) es)) (sym (drop_more ys (from + at) d (omega arith)))

pub part-map_from : {E F : Type 0} (g : E → F) (ys : List E) (d : E) (from n : ℕ) → from + n ≤ length ys
    → map (λ i. g (get_or ys (from + i) d)) (range_with_len 0 n) ≡ map g (take n (drop from ys))
part-map_from g ys d from n within =
    let same : from + 0 ≡ from = omega arith in
    part-map g ys d from 0 n (omega arith) ∙ ap (λ j. map g (take n (drop j ys))) same

pub zip2-add_times : {E : Type 0} (r : SemiringOn E) (x : E) (as_ bs : List E)
    → zip2 (add_times r x) as_ bs ≡ zip2 r.add as_ (map (r.mul x) bs)
zip2-add_times r x [] bs = refl
zip2-add_times r x (a ∷ as_) [] = refl
zip2-add_times r x (a ∷ as_) (b ∷ bs) = ap (λ es. r.add a (r.mul x b) ∷ es) (zip2-add_times r x as_ bs)
