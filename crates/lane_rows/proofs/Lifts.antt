-- Rows of lanes to which runs, spans and all products of a key are added.
use Rattle.std.proofs.Common.{◌≡◌, ℕ, zero, suc, ◌+◌, ◌-◌, ◌<◌, ◌≤◌, List, [], ◌∷◌, ◌++◌, length, get_or, take, drop}
use Rattle.std.proofs.Common.{map, All, nat_eq, true, false, cond, inl, inr, refl, sym, ap, subst, ◌∙◌}
use Rattle.std.proofs.Common.{length-take, length-drop, length-append, arith}
use Rattle.std.specs.List.{range_with_len}
use Rattle.std.specs.Simd.Lanes.{zip2}
use borrow.Rule.Slice.PartMut.{put_mid}
use Rattle.std.proofs.lemmas.List.{length-map, map-append, take-map}
use Rattle.std.proofs.lemmas.List.Elements.{All-nil, All-cons, All-head, All-tail, All-append, All-take, All-drop}
use Rattle.std.proofs.lemmas.Simd.{length-zip2, map-map}
use Rattle.monoid_kit.specs.declared.span.Span.{Span}
use Rattle.monoid_kit.specs.Items.{IsIn}
use Rattle.monoid_kit.specs.Spans.{moved, IsSpan, AreSpans}
use Rattle.monoid_kit.proofs.Finds.{IsIn-range}
use Rattle.monoid_kit.proofs.Spans.{AreSpans-end}
use Rattle.monoid_kit.proofs.Products.{product_by-same, product_by-map, product_by-append, only-is_element}
use Rattle.semiring_kit.specs.Semiring.{SemiringOn, IsSemiring, IsGood, weight_bound}
use Rattle.semiring_kit.specs.Total.{masked, total}
use Rattle.semiring_kit.proofs.Sums.{mul_is_good, add_is_good, total_is_good, total-reach, total-is_sound}
use Rattle.lane_rows.specs.Lanes.{IsGoodLane, LanesAddUp, add_times}
use Rattle.lane_rows.specs.Rows.{shown, IsLifted, run_at, span_at, moved_at}
use Rattle.lane_rows.proofs.Runs.{lifted-get_or, get_or-is_sound, total-rising, total-folded, total-moved}
use Rattle.lane_rows.proofs.Runs.{part-map_from, zip2-add_times}

drop-map : {X Y : Type 0} (f : X → Y) (n : ℕ) (xs : List X) → drop n (map f xs) ≡ map f (drop n xs)
drop-map f zero xs = refl
drop-map f (suc n) [] = refl
drop-map f (suc n) (x ∷ xs) = drop-map f n xs

pub All-IsIn : {X : Type 0} (P : X → Type 0) (xs : List X) (x : X) → All P xs → IsIn x xs → P x
All-IsIn P [] x each x_in = absurd x_in
All-IsIn P (y ∷ ys) x each x_in = elim x_in [
  | inl same ↦ subst P (sym same) (All-head P y ys each)
  | inr later ↦ All-IsIn P ys x (All-tail P y ys each) later
]

module _ {E L : Type 0} {r : SemiringOn E} (laws : IsSemiring r) (is_lane : L → Type 0) (shows : L → E) where
  abbrev Good : L → Type 0
  Good = IsGoodLane r is_lane shows

  pub shown-are_sound : (row : List L) → All Good row → All r.is_sound (map shows row)
  shown-are_sound [] good = All-nil r.is_sound
  shown-are_sound (x ∷ xs) good =
      All-cons r.is_sound (shows x) (map shows xs) (All-head Good x xs good).good.sound
      (shown-are_sound xs (All-tail Good x xs good))

  pub shown-is_sound : (row : List L) (k : ℕ) → All Good row → r.is_sound (shown r shows row k)
  shown-is_sound row k good = get_or-is_sound laws (map shows row) k (shown-are_sound row good)

  -- a run of products, put into a row

  module _ (by : L) (by_good : Good by) where
    times_by : L → E
    times_by lane = r.mul (shows by) (shows lane)

    product-good : (lane : L) → Good lane → r.reach (shows by) + r.reach (shows lane) ≤ weight_bound
        → IsGood r (r.mul (shows by) (shows lane))
    product-good lane good add_up = mul_is_good laws (shows by) (shows lane) by_good.good good.good add_up

    pub products-are_sound : (from : List L) → All Good from → LanesAddUp r shows by from
        → All r.is_sound (map (λ lane. r.mul (shows by) (shows lane)) from)
    products-are_sound [] good add_up = All-nil r.is_sound
    products-are_sound (x ∷ xs) good add_up =
        All-cons r.is_sound (r.mul (shows by) (shows x)) (map (λ lane. r.mul (shows by) (shows lane)) xs)
        (product-good x (All-head Good x xs good)
        (All-head (λ lane. r.reach (shows by) + r.reach (shows lane) ≤ weight_bound) x xs add_up)).sound
        (products-are_sound xs (All-tail Good x xs good)
        (All-tail (λ lane. r.reach (shows by) + r.reach (shows lane) ≤ weight_bound) x xs add_up))

    pub lifted-good : (new old from : List L) → All is_lane new → length old ≡ length from
        → map shows new ≡ zip2 (add_times r (shows by)) (map shows old) (map shows from)
        → All Good old → All Good from → LanesAddUp r shows by from → All Good new
    lifted-good [] old from lanes long values old_good from_good add_up = All-nil Good
    lifted-good (n ∷ ns) [] [] lanes long values old_good from_good add_up =
        absurd (let e = ap length values in omega arith)
    lifted-good (n ∷ ns) [] (f ∷ fs) lanes long values old_good from_good add_up = absurd (omega arith)
    lifted-good (n ∷ ns) (o ∷ os) [] lanes long values old_good from_good add_up = absurd (omega arith)
    lifted-good (n ∷ ns) (o ∷ os) (f ∷ fs) lanes long values old_good from_good add_up =
        let reach_of = λ (lane : L). r.reach (shows by) + r.reach (shows lane) ≤ weight_bound in
        let first : shows n ≡ r.add (shows o) (r.mul (shows by) (shows f)) = ap (λ es. get_or es 0 r.zero) values in
        let rest : map shows ns ≡ zip2 (add_times r (shows by)) (map shows os) (map shows fs) = ap (drop 1) values in
        All-cons Good n ns
        (record {
          sound = All-head is_lane n ns lanes;
          good = subst (IsGood r) (sym first)
              (add_is_good laws (shows o) (r.mul (shows by) (shows f)) (All-head Good o os old_good).good
              (product-good f (All-head Good f fs from_good) (All-head reach_of f fs add_up)));
        })
        (lifted-good ns os fs (All-tail is_lane n ns lanes) (omega arith) rest
        (All-tail Good o os old_good) (All-tail Good f fs from_good) (All-tail reach_of f fs add_up))

    pub run-IsLifted : (row from new : List L) (to len : ℕ) → to + length from ≤ length row → len ≡ length from
        → All Good row → All Good from → LanesAddUp r shows by from → All is_lane new
        → map shows new ≡ zip2 (add_times r (shows by)) (map shows (take len (drop to row))) (map shows from)
        → IsLifted r is_lane shows row (put_mid to len row new)
        (run_at r to (map (λ lane. r.mul (shows by) (shows lane)) from))
    run-IsLifted row from new to len within len_is row_good from_good add_up lanes values =
        let old : List L = take len (drop to row) in
        let es : List E = map (λ lane. r.mul (shows by) (shows lane)) from in
        let dropped = length-drop to row in
        let taken = length-take len (drop to row) in
        let old_long : length old ≡ length from = omega arith in
        let shown_long : length (map shows old) ≡ length (map shows from) = length-map old shows ∙ old_long
        ∙ sym (length-map from shows) in
        let new_long : length new ≡ length from =
        sym (length-map new shows) ∙ ap length values
        ∙ length-zip2 (add_times r (shows by)) (map shows old) (map shows from) shown_long ∙ length-map old shows
        ∙ old_long in
        let es_long : length es ≡ len = length-map from (λ lane. r.mul (shows by) (shows lane)) ∙ sym len_is in
        record {
          same_length =
              let front = length-take to row in
              let back = length-drop len (drop to row) in
              let inner = length-append new (drop len (drop to row)) in
              let whole = length-append (take to row) (new ++ drop len (drop to row)) in
              omega arith;
          are_good =
              All-append Good (take to row) (new ++ drop len (drop to row)) (All-take Good to row row_good)
              (All-append Good new (drop len (drop to row))
              (lifted-good new old from lanes old_long values
              (All-take Good len (drop to row) (All-drop Good to row row_good)) from_good add_up)
              (All-drop Good len (drop to row) (All-drop Good to row row_good)));
          values = λ k.
              ap (λ es. get_or es k r.zero) (map-append shows (take to row) (new ++ drop len (drop to row))
              ∙ ap (λ es. map shows (take to row) ++ es) (map-append shows new (drop len (drop to row)))
              ∙ ap (λ es. es ++ (map shows new ++ map shows (drop len (drop to row)))) (sym (take-map shows to row))
              ∙ ap (λ es. take to (map shows row) ++ (map shows new ++ es))
              (sym (drop-map shows len (drop to row)) ∙ ap (drop len) (sym (drop-map shows to row)))
              ∙ ap (λ es. take to (map shows row) ++ (es ++ drop len (drop to (map shows row))))
              (values ∙ zip2-add_times r (shows by) (map shows old) (map shows from)
              ∙ ap (zip2 r.add (map shows old)) (map-map (r.mul (shows by)) shows from)
              ∙ ap (λ os. zip2 r.add os es)
              (sym (take-map shows len (drop to row)) ∙ ap (take len) (sym (drop-map shows to row))))
              ∙ ap (λ n. take to (map shows row) ++
              (zip2 r.add (take n (drop to (map shows row))) es ++ drop n (drop to (map shows row)))) (sym es_long))
              ∙ lifted-get_or laws to (map shows row) es k
              (let row_long = length-map row shows in omega arith)
              (shown-are_sound row row_good) (products-are_sound from from_good add_up);
        }

  -- what is added may be said in another way
  pub IsLifted-same : (old new : List L) (f g : ℕ → E) → ((k : ℕ) → f k ≡ g k)
      → IsLifted r is_lane shows old new f → IsLifted r is_lane shows old new g
  IsLifted-same old new f g same lifted = record {
    same_length = lifted.same_length;
    are_good = lifted.are_good;
    values = λ k. lifted.values k ∙ ap (r.add (shown r shows old k)) (same k);
  }

  pub IsLifted-none : (row : List L) → All Good row → IsLifted r is_lane shows row row (λ k. r.zero)
  IsLifted-none row good = record {
    same_length = refl;
    are_good = good;
    values = λ k. sym (laws.addition.monoid.right_identity (shown r shows row k) (shown-is_sound row k good));
  }

  -- one after the other
  pub IsLifted-then : (old mid new : List L) (f g : ℕ → E) → All Good old → ((k : ℕ) → r.is_sound (f k))
      → ((k : ℕ) → r.is_sound (g k))
      → IsLifted r is_lane shows old mid f → IsLifted r is_lane shows mid new g
      → IsLifted r is_lane shows old new (λ k. r.add (f k) (g k))
  IsLifted-then old mid new f g good f_sound g_sound first second = record {
    same_length = second.same_length ∙ first.same_length;
    are_good = second.are_good;
    values = λ k.
        second.values k ∙ ap (λ a. r.add a (g k)) (first.values k)
        ∙ laws.addition.monoid.associative (shown r shows old k) (f k) (g k) (shown-is_sound old k good) (f_sound k)
        (g_sound k);
  }

  -- a span whose elements rise, and one whose elements go to one place

  moved-rising : (span : Span) (i : ℕ) → span.rises ≡ true → moved span i ≡ span.to + i
  moved-rising span i rises = ap (λ t. cond t (span.to + i) span.to) rises

  moved-folded : (span : Span) (i : ℕ) → span.rises ≡ false → moved span i ≡ span.to
  moved-folded span i folds = ap (λ t. cond t (span.to + i) span.to) folds

  lanes-part : (from : List L) (first len : ℕ)
      → take len (drop first (map shows from)) ≡ map shows (take len (drop first from))
  lanes-part from first len = ap (take len) (drop-map shows first from) ∙ take-map shows len (drop first from)

  pub span-rising : (x : E) (span : Span) (from : List L) (len k : ℕ) → len ≡ span.len → span.from + len ≤ length from
      → span.rises ≡ true
      → run_at r span.to (map (λ lane. r.mul x (shows lane)) (take len (drop span.from from))) k
      ≡ span_at r x span (shown r shows from) k
  span-rising x span from len k len_is within rises =
      let f = λ (i : ℕ). r.mul x (shown r shows from (span.from + i)) in
      let long = length-map from shows in
      let there : span.to ≡ span.to + 0 = omega arith in
      ap (λ es. run_at r span.to es k) (sym (map-map (r.mul x) shows (take len (drop span.from from)))
      ∙ ap (map (r.mul x)) (sym (lanes-part from span.from len))
      ∙ sym (part-map_from (r.mul x) (map shows from) r.zero span.from len (omega arith)))
      ∙ ap (λ j. run_at r j (map f (range_with_len 0 len)) k) there
      ∙ sym (total-rising laws f span.to 0 len k)
      ∙ product_by-same r.zero r.add (λ i. masked r (nat_eq (span.to + i) k) (f i))
      (λ i. masked r (nat_eq (moved span i) k) (f i))
      (range_with_len 0 len) (λ i i_in. ap (λ j. masked r (nat_eq j k) (f i)) (sym (moved-rising span i rises)))
      ∙ ap (λ n. total r (λ i. masked r (nat_eq (moved span i) k) (f i)) (range_with_len 0 n)) len_is

  part-total : (from : List L) (first len : ℕ) → first + len ≤ length from
      → total r shows (take len (drop first from)) ≡ total r (λ i. shown r shows from (first + i))
      (range_with_len 0 len)
  part-total from first len within =
      let long = length-map from shows in
      let f = λ (i : ℕ). shown r shows from (first + i) in
      sym (product_by-map r.zero r.add (λ e. e) shows (take len (drop first from)))
      ∙ ap (total r (λ e. e)) (sym (lanes-part from first len))
      ∙ sym (product_by-map r.zero r.add (λ e. e) (λ e. e) (take len (drop first (map shows from))))
      ∙ ap (total r (λ e. e)) (sym (part-map_from (λ e. e) (map shows from) r.zero first len (omega arith)))
      ∙ product_by-map r.zero r.add (λ e. e) f (range_with_len 0 len)

  pub span-folded : (x : E) (span : Span) (from : List L) (sum : L) (len k : ℕ) → len ≡ span.len
      → span.from + len ≤ length from
      → span.rises ≡ false → r.is_sound x → All Good from → shows sum ≡ total r shows (take len (drop span.from from))
      → run_at r span.to (map (λ lane. r.mul x (shows lane)) (sum ∷ [])) k
      ≡ span_at r x span (shown r shows from) k
  span-folded x span from sum len k len_is within folds x_sound from_good sum_is =
      let f = λ (i : ℕ). shown r shows from (span.from + i) in
      ap (λ e. run_at r span.to (r.mul x e ∷ []) k) (sum_is ∙ part-total from span.from len within)
      ∙ sym (total-folded laws f x span.to len k x_sound (λ i. shown-is_sound from (span.from + i) from_good))
      ∙ product_by-same r.zero r.add (λ i. masked r (nat_eq span.to k) (r.mul x (f i)))
      (λ i. masked r (nat_eq (moved span i) k) (r.mul x (f i)))
      (range_with_len 0 len)
      (λ i i_in. ap (λ j. masked r (nat_eq j k) (r.mul x (f i))) (sym (moved-folded span i folds)))
      ∙ ap (λ n. total r (λ i. masked r (nat_eq (moved span i) k) (r.mul x (f i))) (range_with_len 0 n)) len_is

  -- the lane of a sum of good lanes
  pub sum-good : (lanes : List L) (sum : L) → All Good lanes → is_lane sum → shows sum ≡ total r shows lanes → Good sum
  sum-good lanes sum good sound is = record {
    sound = sound;
    good =
        subst (IsGood r) (sym is) (total_is_good laws shows lanes (λ x x_in. (All-IsIn Good lanes x good x_in).good));
  }

  pub sum-adds_up : (by : L) (lanes : List L) (sum : L) → Good by → All Good lanes → LanesAddUp r shows by lanes
      → shows sum ≡ total r shows lanes
      → LanesAddUp r shows by (sum ∷ [])
  sum-adds_up by lanes sum by_good good add_up is =
      let left : r.reach (shows by) ≤ weight_bound = by_good.good.within in
      let within : r.reach (total r shows lanes) ≤ weight_bound - r.reach (shows by) =
      total-reach laws shows lanes (weight_bound - r.reach (shows by))
      (λ x x_in. (All-IsIn Good lanes x good x_in).good.sound)
      (λ x x_in. let both = All-IsIn (λ lane. r.reach (shows by) + r.reach (shows lane) ≤ weight_bound) lanes x add_up
      x_in in omega arith) in
      let reach : r.reach (shows sum) ≡ r.reach (total r shows lanes) = ap r.reach is in
      All-cons (λ lane. r.reach (shows by) + r.reach (shows lane) ≤ weight_bound) sum [] (omega arith)
      (All-nil (λ lane. r.reach (shows by) + r.reach (shows lane) ≤ weight_bound))

pub last_below : (span : Span) (n : ℕ) → 0 < span.len → span.rises ≡ true → ((i : ℕ) → i < span.len → moved span i < n)
    → span.to + span.len ≤ n
last_below span n some rises within =
    let last : moved span (span.len - 1) < n = within (span.len - 1) (omega arith) in
    let there : moved span (span.len - 1) ≡ span.to + (span.len - 1) =
    ap (λ t. cond t (span.to + (span.len - 1)) span.to) rises in
    omega arith

pub first_below : (span : Span) (n : ℕ) → 0 < span.len → span.rises ≡ false
    → ((i : ℕ) → i < span.len → moved span i < n) → span.to + 1 ≤ n
first_below span n some folds within =
    let first : moved span 0 < n = within 0 some in
    let there : moved span 0 ≡ span.to = ap (λ t. cond t (span.to + 0) span.to) folds in
    omega arith

pub range-append : (low m n all : ℕ) → all ≡ m + n
    → range_with_len low all ≡ range_with_len low m ++ range_with_len (low + m) n
range-append low zero n all is =
    let same : all ≡ n = omega arith in
    let there : low ≡ low + 0 = omega arith in
    ap (range_with_len low) same ∙ ap (λ a. range_with_len a n) there
range-append low (suc m) n zero is = absurd (omega arith)
range-append low (suc m) n (suc all) is =
    let there : low + 1 + m ≡ low + suc m = omega arith in
    ap (λ xs. low ∷ xs) (range-append (low + 1) m n all (omega arith)
    ∙ ap (λ a. range_with_len (low + 1) m ++ range_with_len a n) there)

-- a loop over spans: the keys below `low` have been looked at, and the spans that are left begin there
pub record IsLifting {E L : Type 0} (r : SemiringOn E) (is_lane : L → Type 0) (shows : L → E) (x : E) (move : ℕ → ℕ)
    (y : ℕ → E)
    (size : ℕ) (old row : List L) (spans : List Span) : Type 0 where
  pub low : ℕ
  pub left : AreSpans size move low spans
  pub lifted : IsLifted r is_lane shows old row (moved_at r x move low y)

module _ {E L : Type 0} {r : SemiringOn E} (laws : IsSemiring r) (is_lane : L → Type 0) (shows : L → E)
    (x : E) (x_sound : r.is_sound x) (move : ℕ → ℕ) (y : ℕ → E) (y_sound : (k : ℕ) → r.is_sound (y k)) where
  moved_one : ℕ → ℕ → E
  moved_one k b = masked r (nat_eq (move b) k) (r.mul x (y b))

  moved_one-is_sound : (k b : ℕ) → r.is_sound (moved_one k b)
  unfolding moved_one
  moved_one-is_sound k b =
      only-is_element laws.addition.monoid (nat_eq (move b) k) (r.mul x (y b))
      (laws.multiplication.product_is_element x (y b) x_sound (y_sound b))

  pub moved_at-is_sound : (n k : ℕ) → r.is_sound (moved_at r x move n y k)
  unfolding moved_one
  moved_at-is_sound n k = total-is_sound laws (moved_one k) (range_with_len 0 n) (λ b b_in. moved_one-is_sound k b)

  pub span_at-is_sound : (span : Span) (k : ℕ) → r.is_sound (span_at r x span y k)
  span_at-is_sound span k =
      total-is_sound laws (λ i. masked r (nat_eq (moved span i) k) (r.mul x (y (span.from + i))))
      (range_with_len 0 span.len)
      (λ i i_in. only-is_element laws.addition.monoid (nat_eq (moved span i) k) (r.mul x (y (span.from + i)))
      (laws.multiplication.product_is_element x (y (span.from + i)) x_sound (y_sound (span.from + i))))

  -- the keys below a span, and those in it
  moved_at-more : (low : ℕ) (span : Span) (k : ℕ) → IsSpan move low span
      → r.add (moved_at r x move low y k) (span_at r x span y k) ≡ moved_at r x move (low + span.len) y k
  unfolding moved_one
  moved_at-more low span k is =
      let here : span_at r x span y k ≡ total r (moved_one k) (range_with_len low span.len) =
      product_by-same r.zero r.add (λ i. masked r (nat_eq (moved span i) k) (r.mul x (y (span.from + i))))
      (λ i. moved_one k (low + i))
      (range_with_len 0 span.len)
      (λ i i_in. ap (λ b. masked r (nat_eq (moved span i) k) (r.mul x (y (b + i)))) is.begins
      ∙ ap (λ j. masked r (nat_eq j k) (r.mul x (y (low + i)))) (sym (is.moves i (IsIn-range span.len i i_in))))
      ∙ total-moved laws (moved_one k) low span.len in
      ap (r.add (moved_at r x move low y k)) here
      ∙ sym (product_by-append laws.addition.monoid (moved_one k) (range_with_len 0 low) (range_with_len low span.len)
      (λ b b_in. moved_one-is_sound k b) (λ b b_in. moved_one-is_sound k b))
      ∙ ap (total r (moved_one k)) (sym (range-append 0 low span.len (low + span.len) refl
      ∙ (let there : 0 + low ≡ low = omega arith in ap (λ a. range_with_len 0 low ++ range_with_len a span.len) there)))

  pub lifting-start : (size : ℕ) (row : List L) (spans : List Span) → All (IsGoodLane r is_lane shows) row
      → AreSpans size move 0 spans
      → IsLifting r is_lane shows x move y size row row spans
  lifting-start size row spans good are = record {
    low = 0;
    left = are;
    lifted = IsLifted-none laws is_lane shows row good;
  }

  pub lifting-more : (size : ℕ) (old row new : List L) (span : Span) (spans left : List Span)
      → All (IsGoodLane r is_lane shows) old
      → spans ≡ span ∷ left → (lifting : IsLifting r is_lane shows x move y size old row spans)
      → IsLifted r is_lane shows row new (span_at r x span y) → IsLifting r is_lane shows x move y size old new left
  lifting-more size old row new span spans left good split lifting step =
      let are : AreSpans size move lifting.low (span ∷ left) = subst (AreSpans size move lifting.low) split lifting.left
      in
      record {
        low = lifting.low + span.len;
        left = are.1;
        lifted =
            IsLifted-same laws is_lane shows old new
            (λ k. r.add (moved_at r x move lifting.low y k) (span_at r x span y k))
            (moved_at r x move (lifting.low + span.len) y)
            (λ k. moved_at-more lifting.low span k are.0)
            (IsLifted-then laws is_lane shows old row new (moved_at r x move lifting.low y) (span_at r x span y) good
            (moved_at-is_sound lifting.low) (span_at-is_sound span) lifting.lifted step);
      }

  pub lifting-end : (size : ℕ) (old row : List L) (spans : List Span) → spans ≡ []
      → IsLifting r is_lane shows x move y size old row spans
      → IsLifted r is_lane shows old row (moved_at r x move size y)
  lifting-end size old row spans none lifting =
      let end : lifting.low ≡ size = subst (AreSpans size move lifting.low) none lifting.left in
      subst (λ n. IsLifted r is_lane shows old row (moved_at r x move n y)) end lifting.lifted

-- what the next span says of the row
pub record NextSpan (move : ℕ → ℕ) (size : ℕ) (span : Span) : Type 0 where
  pub some : 0 < span.len
  pub within : span.from + span.len ≤ size
  pub moves : (i : ℕ) → i < span.len → moved span i < size

pub next_span : (move : ℕ → ℕ) (size low : ℕ) (span : Span) (spans left : List Span)
    → ((k : ℕ) → k < size → move k < size)
    → spans ≡ span ∷ left → AreSpans size move low spans → NextSpan move size span
next_span move size low span spans left closed split all =
    let are : AreSpans size move low (span ∷ left) = subst (AreSpans size move low) split all in
    let end = AreSpans-end size (low + span.len) move left are.1 in
    let begins = are.0.begins in
    record {
      some = are.0.some;
      within = omega arith;
      moves = λ i below. subst (λ j. j < size) (are.0.moves i below) (closed (low + i) (omega arith));
    }
