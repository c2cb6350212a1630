-- Rows of lanes as maps: none, one value, sums, and the convolution as a sum over the left keys.
use Rattle.std.proofs.Common.{◌≡◌, ℕ, zero, suc, ◌+◌, ◌-◌, ◌<◌, ◌≤◌, List, [], ◌∷◌, ◌++◌, length, get_or, set, take}
use Rattle.std.proofs.Common.{drop, map, replicate, All, nat_eq, inl, inr, refl, sym, ap, subst, ◌∙◌, get_or-set_same}
use Rattle.std.proofs.Common.{get_or-set_other, arith}
use Rattle.std.specs.List.{range_with_len}
use Rattle.std.specs.Simd.Lanes.{zip2}
use Rattle.std.proofs.lemmas.Bool.{cases_eq, eq-eqb, ne_eqb}
use Rattle.std.proofs.lemmas.List.{length-map, length-replicate, map-set, take_at}
use Rattle.std.proofs.lemmas.List.Elements.{All-head, All-tail, All-replicate, All-weaker}
use Rattle.std.proofs.lemmas.Simd.{length-zip2}
use Rattle.monoid_kit.specs.Keyed.{IsAdditive}
use Rattle.monoid_kit.proofs.Keyed.{product_by-IsAdditive, product_by-at_key}
use Rattle.monoid_kit.proofs.Products.{product_by-append}
use Rattle.semiring_kit.specs.Semiring.{SemiringOn, IsSemiring, IsGood, weight_bound}
use Rattle.semiring_kit.specs.Total.{masked, total}
use Rattle.semiring_kit.proofs.Sums.{masked_mul_right-IsAdditive, masked_is_good, total-is_sound}
use Rattle.key_map.specs.Maps.{alone, ReachesAddUp}
use Rattle.key_map.specs.Convolution.{convolution}
use Rattle.key_map.proofs.Convolutions.{convolution-masked}
use Rattle.lane_rows.specs.Lanes.{IsGoodLane, LanesAddUp, add_times}
use Rattle.lane_rows.specs.Rows.{shown, FitsRow, IsLifted, moved_at}
use Rattle.lane_rows.proofs.Lifts.{shown-are_sound, lifted-good, IsLifted-none, IsLifted-same}
use Rattle.lane_rows.proofs.Lifts.{IsLifted-then, moved_at-is_sound, range-append}

pub shown-at : {E L : Type 0} (r : SemiringOn E) (shows : L → E) (row : List L) (k : ℕ) (d : L) → k < length row
    → shown r shows row k ≡ shows (get_or row k d)
shown-at r shows [] k d below = absurd (omega arith)
shown-at r shows (x ∷ xs) zero d below = refl
shown-at r shows (x ∷ xs) (suc k) d below = shown-at r shows xs k d (omega arith)

-- a row that was written through a slice of all of it
pub written-whole : {L : Type 0} (items new : List L) (n : ℕ) → length new ≡ n
    → take n (new ++ drop (length new) items) ≡ new
written-whole items new n long = take_at new (drop (length new) items) n long

module _ {E L : Type 0} {r : SemiringOn E} (laws : IsSemiring r) (is_lane : L → Type 0) (shows : L → E) where
  abbrev Good : L → Type 0
  Good = IsGoodLane r is_lane shows

  -- sums of rows

  sums-get_or : (as_ bs : List E) (k : ℕ) → length as_ ≡ length bs → All r.is_sound bs
      → get_or (zip2 (add_times r r.one) as_ bs) k r.zero ≡ r.add (get_or as_ k r.zero) (get_or bs k r.zero)
  sums-get_or [] [] k long sound = sym (laws.addition.monoid.left_identity r.zero laws.addition.monoid.unit_is_element)
  sums-get_or [] (b ∷ bs) k long sound = absurd (omega arith)
  sums-get_or (a ∷ as_) [] k long sound = absurd (omega arith)
  sums-get_or (a ∷ as_) (b ∷ bs) zero long sound =
      ap (r.add a) (laws.multiplication.left_identity b (All-head r.is_sound b bs sound))
  sums-get_or (a ∷ as_) (b ∷ bs) (suc k) long sound =
      sums-get_or as_ bs k (omega arith) (All-tail r.is_sound b bs sound)

  one-adds_up : (one : L) (row : List L) → shows one ≡ r.one → All Good row → LanesAddUp r shows one row
  one-adds_up one row is good =
      All-weaker Good (λ lane. r.reach (shows one) + r.reach (shows lane) ≤ weight_bound)
      (λ lane lane_good.
      let reach : r.reach (shows one) ≡ 0 = ap r.reach is ∙ laws.one_reach in
      let within = lane_good.good.within in
      omega arith) row good

  pub sum-IsLifted : (one : L) (row other new : List L) → Good one → shows one ≡ r.one → length row ≡ length other
      → All Good row → All Good other → All is_lane new
      → map shows new ≡ zip2 (add_times r (shows one)) (map shows row) (map shows other)
      → IsLifted r is_lane shows row new (shown r shows other)
  sum-IsLifted one row other new one_good is long row_good other_good lanes values =
      let shown_long : length (map shows row) ≡ length (map shows other) = length-map row shows ∙ long
      ∙ sym (length-map other shows) in
      record {
        same_length = sym (length-map new shows) ∙ ap length values
            ∙ length-zip2 (add_times r (shows one)) (map shows row) (map shows other) shown_long ∙ length-map row shows;
        are_good = lifted-good laws is_lane shows one one_good new row other lanes long values row_good other_good
            (one-adds_up one other is other_good);
        values = λ k.
            ap (λ es. get_or es k r.zero) (values ∙ ap (λ e. zip2 (add_times r e) (map shows row) (map shows other)) is)
            ∙ sums-get_or (map shows row) (map shows other) k shown_long
            (shown-are_sound laws is_lane shows other other_good);
      }

  -- a row of absent lanes

  shown-replicate : (absent : L) (n k : ℕ) → shows absent ≡ r.zero → shown r shows (replicate n absent) k ≡ r.zero
  shown-replicate absent zero k is = refl
  shown-replicate absent (suc n) zero is = is
  shown-replicate absent (suc n) (suc k) is = shown-replicate absent n k is

  pub none-FitsRow : (absent : L) (size : ℕ) (row : List L) → is_lane absent → shows absent ≡ r.zero → IsGood r r.zero
      → row ≡ replicate size absent → FitsRow r is_lane shows size row
  none-FitsRow absent size row sound is zero_good empty = record {
    has_size = ap length empty ∙ length-replicate size absent;
    are_good = subst (All Good) (sym empty)
        (All-replicate Good size absent (record { sound = sound; good = subst (IsGood r) (sym is) zero_good }));
  }

  pub none-shown : (absent : L) (size : ℕ) (row : List L) (k : ℕ) → shows absent ≡ r.zero → row ≡ replicate size absent
      → shown r shows row k ≡ r.zero
  none-shown absent size row k is empty = ap (λ lanes. shown r shows lanes k) empty ∙ shown-replicate absent size k is

  -- one value

  pub single-shown : (row : List L) (key : ℕ) (lane : L) (elem : E) (k : ℕ) → key < length row → shows lane ≡ elem
      → ((j : ℕ) → shown r shows row j ≡ r.zero) → shown r shows (set row key lane) k ≡ alone r key elem k
  single-shown row key lane elem k within is empty =
      let long = length-map row shows in
      ap (λ es. get_or es k r.zero) (map-set shows row key lane)
      ∙ elim (cases_eq k key) [
        | inl same ↦
            ap (λ j. get_or (set (map shows row) key (shows lane)) j r.zero) same
            ∙ get_or-set_same (map shows row) key (shows lane) r.zero (omega arith)
            ∙ is
            ∙ ap (λ t. masked r t elem) (sym (eq-eqb key k (sym same)))
        | inr other ↦
            get_or-set_other (map shows row) key k (shows lane) r.zero other
            ∙ empty k
            ∙ ap (λ t. masked r t elem) (sym (ne_eqb key k (λ same. other (sym same))))
      ]

  -- what lanes of a row reach with a lane, where the maps do

  pub lanes-add_up : (by : L) (row : List L) (x : ℕ → E) (key : ℕ) → shows by ≡ x key
      → ReachesAddUp r x (shown r shows row)
      → LanesAddUp r shows by row
  lanes-add_up by row x key is add_up =
      λ k d below.
      let at_key = add_up key k in
      let left : r.reach (shows by) ≡ r.reach (x key) = ap r.reach is in
      let right : r.reach (shown r shows row k) ≡ r.reach (shows (get_or row k d)) = ap r.reach
      (shown-at r shows row k d below) in
      omega arith

  pub alone-add_up : (by : L) (row : List L) (key : ℕ) (elem : E) → shows by ≡ elem
      → ReachesAddUp r (alone r key elem) (shown r shows row)
      → LanesAddUp r shows by row
  alone-add_up by row key elem is add_up =
      lanes-add_up by row (alone r key elem) key (is ∙ ap (λ t. masked r t elem) (sym (eq-eqb key key refl))) add_up

  -- the convolution as a sum over the left keys

  module _ (size : ℕ) (times : ℕ → ℕ → ℕ) (y : ℕ → E) (y_sound : (k : ℕ) → r.is_sound (y k)) where
    pub convolution-by_key : (x : ℕ → E) (k : ℕ) → ((j : ℕ) → r.is_sound (x j))
        → convolution r size times x y k ≡ total r (λ a. moved_at r (x a) (times a) size y k) (range_with_len 0 size)
    convolution-by_key x k x_sound = convolution-masked laws size times x y k x_sound y_sound

    key-IsAdditive : (a k : ℕ) → IsAdditive r.is_sound r.zero r.add (λ e. moved_at r e (times a) size y k)
    key-IsAdditive a k =
        product_by-IsAdditive laws.addition (λ b e. masked r (nat_eq (times a b) k) (r.mul e (y b)))
        (range_with_len 0 size)
        (λ b b_in. masked_mul_right-IsAdditive laws (nat_eq (times a b) k) (y b) (y_sound b))

    -- of one value
    pub convolution-alone : (key : ℕ) (elem : E) (k : ℕ) → key < size → IsGood r elem
        → moved_at r elem (times key) size y k ≡ convolution r size times (alone r key elem) y k
    convolution-alone key elem k key_in good =
        sym (product_by-at_key laws.addition (λ a e. moved_at r e (times a) size y k) (λ a. key-IsAdditive a k)
        key 0 size elem good.sound (omega arith) (omega arith))
        ∙ sym (convolution-by_key (alone r key elem) k (λ j. (masked_is_good laws (nat_eq key j) elem good).sound))

    -- a row without a value, to which the products with one value were added
    pub shifted-shown : (row new : List L) (lane : L) (key : ℕ) (elem : E) (k : ℕ)
        → ((j : ℕ) → shown r shows row j ≡ r.zero)
        → shows lane ≡ elem → key < size → IsGood r elem
        → IsLifted r is_lane shows row new (moved_at r (shows lane) (times key) size y)
        → shown r shows new k ≡ convolution r size times (alone r key elem) y k
    shifted-shown row new lane key elem k empty is key_in good lifted =
        lifted.values k
        ∙ ap (λ e. r.add e (moved_at r (shows lane) (times key) size y k)) (empty k)
        ∙ ap (λ e. r.add r.zero (moved_at r e (times key) size y k)) is
        ∙ laws.addition.monoid.left_identity (moved_at r elem (times key) size y k)
        (moved_at-is_sound laws is_lane shows elem good.sound (times key) y y_sound size k)
        ∙ convolution-alone key elem k key_in good

    -- a row to which the products with one value were added
    pub lifted-shown : (row new : List L) (lane : L) (key : ℕ) (elem : E) (k : ℕ)
        → shows lane ≡ elem → key < size → IsGood r elem
        → IsLifted r is_lane shows row new (moved_at r (shows lane) (times key) size y)
        → shown r shows new k ≡ r.add (shown r shows row k) (convolution r size times (alone r key elem) y k)
    lifted-shown row new lane key elem k is key_in good lifted =
        lifted.values k
        ∙ ap (λ e. r.add (shown r shows row k) (moved_at r e (times key) size y k)) is
        ∙ ap (r.add (shown r shows row k)) (convolution-alone key elem k key_in good)

    -- a key without a value adds nothing
    pub moved_at-zero : (x : E) (a k : ℕ) → x ≡ r.zero → moved_at r x (times a) size y k ≡ r.zero
    moved_at-zero x a k is = ap (λ e. moved_at r e (times a) size y k) is ∙ (key-IsAdditive a k).keeps_unit

-- an empty list that was filled
pub filled-replicate : {L : Type 0} (old new : List L) (n len : ℕ) (lane : L) → old ≡ [] → len ≡ 0
    → new ≡ take n old ++ replicate (n - len) lane → new ≡ replicate n lane
filled-replicate {L = L} old new n len lane empty none is =
    is ∙ ap (λ ls. take n ls ++ replicate (n - len) lane) empty ∙ ap (λ ls. ls ++ replicate (n - len) lane) (take-nil n)
    ∙ (let same : n - len ≡ n = omega arith in ap (λ m. replicate m lane) same)
  where
    take-nil : (m : ℕ) → take {A = L} m [] ≡ []
    take-nil zero = refl
    take-nil (suc m) = refl

-- what the products of the values of x at the keys below n with all values of y have at key k
abbrev pub keys_at : {E : Type 0} → SemiringOn E → ℕ → (ℕ → ℕ → ℕ) → (ℕ → E) → (ℕ → E) → ℕ → ℕ → E
keys_at r size times x y n k = total r (λ a. moved_at r (x a) (times a) size y k) (range_with_len 0 n)

-- a loop over the left keys: the products of those so far were added
module _ {E L : Type 0} {r : SemiringOn E} (laws : IsSemiring r) (is_lane : L → Type 0) (shows : L → E) (size : ℕ)
    (times : ℕ → ℕ → ℕ)
    (x y : ℕ → E) (x_sound : (k : ℕ) → r.is_sound (x k)) (y_sound : (k : ℕ) → r.is_sound (y k)) where
  key-is_sound : (a k : ℕ) → r.is_sound (moved_at r (x a) (times a) size y k)
  key-is_sound a k = moved_at-is_sound laws is_lane shows (x a) (x_sound a) (times a) y y_sound size k

  keys-is_sound : (n k : ℕ) → r.is_sound (keys_at r size times x y n k)
  keys-is_sound n k =
      total-is_sound laws (λ a. moved_at r (x a) (times a) size y k) (range_with_len 0 n) (λ a a_in. key-is_sound a k)

  keys-more : (n k : ℕ)
      → r.add (keys_at r size times x y n k) (moved_at r (x n) (times n) size y k) ≡ keys_at r size times x y (n + 1) k
  keys-more n k =
      let f = λ (a : ℕ). moved_at r (x a) (times a) size y k in
      let there : 0 + n ≡ n = omega arith in
      ap (r.add (keys_at r size times x y n k)) (sym (laws.addition.monoid.right_identity (f n) (key-is_sound n k)))
      ∙ sym (product_by-append laws.addition.monoid f (range_with_len 0 n) (n ∷ []) (λ a a_in. key-is_sound a k)
      (λ a a_in. key-is_sound a k))
      ∙ ap (total r f) (ap (λ m. range_with_len 0 n ++ m ∷ []) (sym there) ∙ sym (range-append 0 n 1 (n + 1) refl))

  pub keys-start : (row : List L) → All (IsGoodLane r is_lane shows) row
      → IsLifted r is_lane shows row row (keys_at r size times x y 0)
  keys-start row good = IsLifted-none laws is_lane shows row good

  pub keys-lifted : (old row new : List L) (n : ℕ) → All (IsGoodLane r is_lane shows) old
      → IsLifted r is_lane shows old row (keys_at r size times x y n)
      → IsLifted r is_lane shows row new (moved_at r (x n) (times n) size y)
      → IsLifted r is_lane shows old new (keys_at r size times x y (n + 1))
  keys-lifted old row new n good so_far step =
      IsLifted-same laws is_lane shows old new
      (λ k. r.add (keys_at r size times x y n k) (moved_at r (x n) (times n) size y k))
      (keys_at r size times x y (n + 1))
      (keys-more n)
      (IsLifted-then laws is_lane shows old row new (keys_at r size times x y n) (moved_at r (x n) (times n) size y)
      good (keys-is_sound n) (key-is_sound n) so_far step)

  pub keys-passed : (old row : List L) (n : ℕ) → All (IsGoodLane r is_lane shows) old → x n ≡ r.zero
      → IsLifted r is_lane shows old row (keys_at r size times x y n)
      → IsLifted r is_lane shows old row (keys_at r size times x y (n + 1))
  keys-passed old row n good none so_far =
      IsLifted-same laws is_lane shows old row (keys_at r size times x y n) (keys_at r size times x y (n + 1))
      (λ k. sym (laws.addition.monoid.right_identity (keys_at r size times x y n k) (keys-is_sound n k))
      ∙ ap (r.add (keys_at r size times x y n k))
      (sym (moved_at-zero laws is_lane shows size times y y_sound (x n) n k none))
      ∙ keys-more n k)
      so_far

  pub keys-convolution : (old new : List L) (n k : ℕ) → n ≡ size → ((j : ℕ) → shown r shows old j ≡ r.zero)
      → IsLifted r is_lane shows old new (keys_at r size times x y n)
      → shown r shows new k ≡ convolution r size times x y k
  keys-convolution old new n k end empty lifted =
      lifted.values k
      ∙ ap (λ e. r.add e (keys_at r size times x y n k)) (empty k)
      ∙ laws.addition.monoid.left_identity (keys_at r size times x y n k) (keys-is_sound n k)
      ∙ ap (λ m. keys_at r size times x y m k) end
      ∙ sym (convolution-by_key laws is_lane shows size times y y_sound x k x_sound)

-- the lane that was read at a key
pub read-shown : {E L : Type 0} (r : SemiringOn E) (shows : L → E) (row : List L) (k : ℕ) (lane : L) → k < length row
    → lane ≡ get_or row k lane → shows lane ≡ shown r shows row k
read-shown r shows row k lane below read = ap shows read ∙ sym (shown-at r shows row k lane below)

-- a step of the loop over left keys, as it is read off the code
pub lifted-read : {E L : Type 0} (r : SemiringOn E) (is_lane : L → Type 0) (shows : L → E)
    (given row new given_from from : List L)
    (move : ℕ → ℕ) (size : ℕ) (lane : L) (x : E) → given ≡ row → given_from ≡ from → shows lane ≡ x
    → IsLifted r is_lane shows given new (moved_at r (shows lane) move size (shown r shows given_from))
    → IsLifted r is_lane shows row new (moved_at r x move size (shown r shows from))
lifted-read r is_lane shows given row new given_from from move size lane x row_is from_is x_is lifted =
    subst (λ e. IsLifted r is_lane shows row new (moved_at r e move size (shown r shows from))) x_is
    (subst (λ lanes. IsLifted r is_lane shows row new (moved_at r (shows lane) move size (shown r shows lanes))) from_is
    (subst (λ lanes. IsLifted r is_lane shows lanes new (moved_at r (shows lane) move size (shown r shows given_from)))
    row_is lifted))
