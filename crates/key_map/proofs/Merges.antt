-- How two lists of slots that fit are added up, slot by slot: what is done and what is left have the values of the
-- sums.
use Rattle.std.proofs.Common.{◌≡◌, ℕ, ◌+◌, ◌<◌, ◌≤◌, List, [], ◌∷◌, ◌++◌, length, take, nat_eq, nat_lt, cond, Option}
use Rattle.std.proofs.Common.{Some, None, inl, inr, refl, sym, ap, subst, ◌∙◌, arith}
use Rattle.std.specs.Prelude.{MatchOption, slice_index_or}
use Rattle.std.proofs.lemmas.Bool.{cases_order, eqb-true, eq-eqb, ne_eqb, lt-ltb, le-ltb}
use Rattle.std.proofs.lemmas.List.{length_push, take_more, take_all}
use Rattle.monoid_kit.proofs.Products.{only-mul, mul_middle}
use Rattle.semiring_kit.specs.Semiring.{SemiringOn, IsSemiring, IsGood}
use Rattle.semiring_kit.specs.Total.{masked}
use Rattle.semiring_kit.proofs.Sums.{add_is_good, masked_is_good}
use Rattle.key_map.specs.declared.slot.Slot.{Slot}
use Rattle.key_map.specs.Slots.{value_in, FitsSlots}
use Rattle.key_map.specs.SlotLaws.{value_in_is_good}
use Rattle.key_map.specs.Merging.{lesser_slot, least_slot, after_key}
use Rattle.key_map.proofs.Slots.{value_in-below, value_in-cons}

-- the slot comes next, from low on; with it, left and right have the values of a and b together
pub record IsNext {E : Type 0} (r : SemiringOn E) (low high : ℕ) (a b : List (Slot E)) (slot : Slot E)
    (left right : List (Slot E)) : Type 0 where
  pub above : low ≤ slot.key
  pub below : slot.key < high
  pub is_good : IsGood r slot.elem
  pub left_fits : FitsSlots r (slot.key + 1) high left
  pub right_fits : FitsSlots r (slot.key + 1) high right
  pub values : (k : ℕ) → r.add (masked r (nat_eq slot.key k) slot.elem)
      (r.add (value_in r.zero left k) (value_in r.zero right k))
      ≡ r.add (value_in r.zero a k) (value_in r.zero b k)
  pub fewer : length left + length right + 1 ≤ length a + length b

-- what is added up, and what is left of both lists from low on, have the values of a and b together
pub record IsMerging {E : Type 0} (r : SemiringOn E) (high : ℕ) (a b sums left right : List (Slot E)) : Type 0 where
  pub low : ℕ
  pub within : low ≤ high
  pub sums_fit : FitsSlots r 0 low sums
  pub left_fits : FitsSlots r low high left
  pub right_fits : FitsSlots r low high right
  pub values : (k : ℕ) → r.add (value_in r.zero sums k) (r.add (value_in r.zero left k) (value_in r.zero right k))
      ≡ r.add (value_in r.zero a k) (value_in r.zero b k)
  pub few : length sums + (length left + length right) ≤ length a + length b

module _ {E : Type 0} {r : SemiringOn E} (laws : IsSemiring r) where
  value_is_sound : (low high : ℕ) (slots : List (Slot E)) (k : ℕ) → FitsSlots r low high slots
      → r.is_sound (value_in r.zero slots k)
  value_is_sound low high slots k fits = (value_in_is_good laws low high slots k fits).sound

  mask_is_sound : (slot : Slot E) (k : ℕ) → IsGood r slot.elem → r.is_sound (masked r (nat_eq slot.key k) slot.elem)
  mask_is_sound slot k good = (masked_is_good laws (nat_eq slot.key k) slot.elem good).sound

  value_in-first : (low high : ℕ) (slot : Slot E) (slots : List (Slot E)) (k : ℕ) → FitsSlots r low high (slot ∷ slots)
      → value_in r.zero (slot ∷ slots) k ≡ r.add (masked r (nat_eq slot.key k) slot.elem) (value_in r.zero slots k)
  value_in-first low high slot slots k fits =
      value_in-cons laws (nat_eq slot.key k) slot.elem (value_in r.zero slots k) fits.2.0.sound
      (value_is_sound (slot.key + 1) high slots k fits.2.1)
      (λ same. value_in-below r (slot.key + 1) high slots k fits.2.1
      (let here : slot.key ≡ k = eqb-true slot.key k same in omega arith))

  -- the least slot comes next

  next-left : (low high : ℕ) (x : Slot E) (xs b : List (Slot E)) → FitsSlots r low high (x ∷ xs)
      → FitsSlots r (x.key + 1) high b
      → IsNext r low high (x ∷ xs) b x xs b
  next-left low high x xs b fits b_fits = record {
    above = fits.0;
    below = fits.1;
    is_good = fits.2.0;
    left_fits = fits.2.1;
    right_fits = b_fits;
    values = λ k.
        let here = masked r (nat_eq x.key k) x.elem in
        sym (laws.addition.monoid.associative here (value_in r.zero xs k) (value_in r.zero b k)
        (mask_is_sound x k fits.2.0)
        (value_is_sound (x.key + 1) high xs k fits.2.1)
        (value_is_sound (x.key + 1) high b k b_fits))
        ∙ ap (λ e. r.add e (value_in r.zero b k)) (sym (value_in-first low high x xs k fits));
    fewer = omega arith;
  }

  next-flip : (low high : ℕ) (a b : List (Slot E)) (slot : Slot E) (left right : List (Slot E))
      → FitsSlots r low high a → FitsSlots r low high b
      → IsNext r low high a b slot left right → IsNext r low high b a slot right left
  next-flip low high a b slot left right a_fits b_fits next = record {
    above = next.above;
    below = next.below;
    is_good = next.is_good;
    left_fits = next.right_fits;
    right_fits = next.left_fits;
    values = λ k.
        ap (r.add (masked r (nat_eq slot.key k) slot.elem))
        (laws.addition.commutative (value_in r.zero right k) (value_in r.zero left k)
        (value_is_sound (slot.key + 1) high right k next.right_fits)
        (value_is_sound (slot.key + 1) high left k next.left_fits))
        ∙ next.values k
        ∙ laws.addition.commutative (value_in r.zero a k) (value_in r.zero b k)
        (value_is_sound low high a k a_fits) (value_is_sound low high b k b_fits);
    fewer = let fewer = next.fewer in omega arith;
  }

  next-both : (low high : ℕ) (x y : Slot E) (xs ys : List (Slot E)) → FitsSlots r low high (x ∷ xs)
      → FitsSlots r low high (y ∷ ys)
      → x.key ≡ y.key
      → IsNext r low high (x ∷ xs) (y ∷ ys) (record { key = x.key; elem = r.add x.elem y.elem }) xs ys
  next-both low high x y xs ys x_fits y_fits same = record {
    above = x_fits.0;
    below = x_fits.1;
    is_good = add_is_good laws x.elem y.elem x_fits.2.0 y_fits.2.0;
    left_fits = x_fits.2.1;
    right_fits = subst (λ key. FitsSlots r (key + 1) high ys) (sym same) y_fits.2.1;
    values = λ k.
        let t = nat_eq x.key k in
        let xe = value_in r.zero xs k in
        let ye = value_in r.zero ys k in
        let y_mask : masked r t y.elem ≡ masked r (nat_eq y.key k) y.elem = ap
        (λ key. masked r (nat_eq key k) y.elem) same in
        ap (λ e. r.add e (r.add xe ye)) (only-mul laws.addition.monoid t x.elem y.elem)
        ∙ ap (λ e. r.add (r.add (masked r t x.elem) e) (r.add xe ye)) y_mask
        ∙ mul_middle laws.addition (masked r t x.elem) (masked r (nat_eq y.key k) y.elem) xe ye
        (mask_is_sound x k x_fits.2.0) (mask_is_sound y k y_fits.2.0)
        (value_is_sound (x.key + 1) high xs k x_fits.2.1) (value_is_sound (y.key + 1) high ys k y_fits.2.1)
        ∙ ap (λ e. r.add e (r.add (masked r (nat_eq y.key k) y.elem) ye)) (sym (value_in-first low high x xs k x_fits))
        ∙ ap (r.add (value_in r.zero (x ∷ xs) k)) (sym (value_in-first low high y ys k y_fits));
    fewer = omega arith;
  }

  after-same : (slot : Slot E) (slots : List (Slot E)) (key : ℕ) → slot.key ≡ key → after_key key (slot ∷ slots) ≡ slots
  after-same slot slots key same = ap (λ t. cond t slots (slot ∷ slots)) (eq-eqb slot.key key same)

  after-other : (slot : Slot E) (slots : List (Slot E)) (key : ℕ) → key < slot.key
      → after_key key (slot ∷ slots) ≡ slot ∷ slots
  after-other slot slots key below =
      ap (λ t. cond t slots (slot ∷ slots)) (ne_eqb slot.key key (λ same. absurd (omega arith)))

  lesser-left : (x y : Slot E) → x.key < y.key → lesser_slot r x y ≡ x
  lesser-left x y below =
      ap (λ t. cond t x (cond (nat_lt y.key x.key) y (record { key = x.key; elem = r.add x.elem y.elem })))
      (lt-ltb x.key y.key below)

  lesser-right : (x y : Slot E) → y.key < x.key → lesser_slot r x y ≡ y
  lesser-right x y below =
      ap (λ t. cond t x (cond (nat_lt y.key x.key) y (record { key = x.key; elem = r.add x.elem y.elem })))
      (le-ltb x.key y.key (omega arith))
      ∙ ap (λ t. cond t y (record { key = x.key; elem = r.add x.elem y.elem })) (lt-ltb y.key x.key below)

  lesser-both : (x y : Slot E) → x.key ≡ y.key → lesser_slot r x y ≡ record { key = x.key; elem = r.add x.elem y.elem }
  lesser-both x y same =
      ap (λ t. cond t x (cond (nat_lt y.key x.key) y (record { key = x.key; elem = r.add x.elem y.elem })))
      (le-ltb x.key y.key (omega arith))
      ∙ ap (λ t. cond t y (record { key = x.key; elem = r.add x.elem y.elem })) (le-ltb y.key x.key (omega arith))

  next-lesser : (low high : ℕ) (x y : Slot E) (xs ys : List (Slot E)) → FitsSlots r low high (x ∷ xs)
      → FitsSlots r low high (y ∷ ys)
      → IsNext r low high (x ∷ xs) (y ∷ ys) (lesser_slot r x y)
      (after_key (lesser_slot r x y).key (x ∷ xs)) (after_key (lesser_slot r x y).key (y ∷ ys))
  next-lesser low high x y xs ys x_fits y_fits =
      elim (cases_order x.key y.key) [
        | inl same ↦
            let both : Slot E = record { key = x.key; elem = r.add x.elem y.elem } in
            subst (λ slot. IsNext r low high (x ∷ xs) (y ∷ ys) slot (after_key slot.key (x ∷ xs))
            (after_key slot.key (y ∷ ys)))
            (sym (lesser-both x y same))
            (subst (λ left. IsNext r low high (x ∷ xs) (y ∷ ys) both left (after_key x.key (y ∷ ys)))
            (sym (after-same x xs x.key refl))
            (subst (λ right. IsNext r low high (x ∷ xs) (y ∷ ys) both xs right) (sym (after-same y ys x.key (sym same)))
            (next-both low high x y xs ys x_fits y_fits same)))
        | inr other ↦ elim other [
          | inl below ↦
              let b_fits : FitsSlots r (x.key + 1) high (y ∷ ys) = (omega arith, y_fits.1, y_fits.2) in
              subst (λ slot. IsNext r low high (x ∷ xs) (y ∷ ys) slot (after_key slot.key (x ∷ xs))
              (after_key slot.key (y ∷ ys)))
              (sym (lesser-left x y below))
              (subst (λ left. IsNext r low high (x ∷ xs) (y ∷ ys) x left (after_key x.key (y ∷ ys)))
              (sym (after-same x xs x.key refl))
              (subst (λ right. IsNext r low high (x ∷ xs) (y ∷ ys) x xs right) (sym (after-other y ys x.key below))
              (next-left low high x xs (y ∷ ys) x_fits b_fits)))
          | inr above ↦
              let a_fits : FitsSlots r (y.key + 1) high (x ∷ xs) = (omega arith, x_fits.1, x_fits.2) in
              subst (λ slot. IsNext r low high (x ∷ xs) (y ∷ ys) slot (after_key slot.key (x ∷ xs))
              (after_key slot.key (y ∷ ys)))
              (sym (lesser-right x y above))
              (subst (λ left. IsNext r low high (x ∷ xs) (y ∷ ys) y left (after_key y.key (y ∷ ys)))
              (sym (after-other x xs y.key above))
              (subst (λ right. IsNext r low high (x ∷ xs) (y ∷ ys) y (x ∷ xs) right) (sym (after-same y ys y.key refl))
              (next-flip low high (y ∷ ys) (x ∷ xs) y ys (x ∷ xs) y_fits x_fits
              (next-left low high y ys (x ∷ xs) y_fits a_fits))))
        ]
      ]

  pub least_is_next : (low high : ℕ) (a b : List (Slot E)) → FitsSlots r low high a → FitsSlots r low high b
      → MatchOption (least_slot r a b) ((a ≡ []) × (b ≡ []))
      (λ slot. IsNext r low high a b slot (after_key slot.key a) (after_key slot.key b))
  least_is_next low high [] [] a_fits b_fits = (refl, refl)
  least_is_next low high (x ∷ xs) [] a_fits b_fits =
      subst (λ left. IsNext r low high (x ∷ xs) [] x left []) (sym (after-same x xs x.key refl))
      (next-left low high x xs [] a_fits tt)
  least_is_next low high [] (y ∷ ys) a_fits b_fits =
      subst (λ right. IsNext r low high [] (y ∷ ys) y [] right) (sym (after-same y ys y.key refl))
      (next-flip low high (y ∷ ys) [] y ys [] b_fits tt (next-left low high y ys [] b_fits tt))
  least_is_next low high (x ∷ xs) (y ∷ ys) a_fits b_fits = next-lesser low high x y xs ys a_fits b_fits

  -- what is added up so far

  fits-push : (low high : ℕ) (sums : List (Slot E)) (slot : Slot E) → FitsSlots r low high sums → low ≤ slot.key
      → high ≤ slot.key
      → IsGood r slot.elem → FitsSlots r low (slot.key + 1) (sums ++ slot ∷ [])
  fits-push low high [] slot fits above past good = (above, omega arith, (good, tt))
  fits-push low high (first ∷ sums) slot fits above past good =
      let below : first.key < high = fits.1 in
      (fits.0, omega arith, (fits.2.0, fits-push (first.key + 1) high sums slot fits.2.1 (omega arith) past good))

  value_in-push : (low high : ℕ) (sums : List (Slot E)) (slot : Slot E) (k : ℕ) → FitsSlots r low high sums
      → low ≤ slot.key
      → high ≤ slot.key → IsGood r slot.elem
      → value_in r.zero (sums ++ slot ∷ []) k ≡ r.add (value_in r.zero sums k) (masked r (nat_eq slot.key k) slot.elem)
  value_in-push low high [] slot k fits above past good =
      value_in-cons laws (nat_eq slot.key k) slot.elem r.zero good.sound laws.addition.monoid.unit_is_element
      (λ same. refl)
      ∙ laws.addition.commutative (masked r (nat_eq slot.key k) slot.elem) r.zero (mask_is_sound slot k good)
      laws.addition.monoid.unit_is_element
  value_in-push low high (first ∷ sums) slot k fits above past good =
      let here = masked r (nat_eq first.key k) first.elem in
      let below : first.key < high = fits.1 in
      let pushed = fits-push low high (first ∷ sums) slot fits above past good in
      value_in-first low (slot.key + 1) first (sums ++ slot ∷ []) k pushed
      ∙ ap (r.add here) (value_in-push (first.key + 1) high sums slot k fits.2.1 (omega arith) past good)
      ∙ sym (laws.addition.monoid.associative here (value_in r.zero sums k) (masked r (nat_eq slot.key k) slot.elem)
      (mask_is_sound first k fits.2.0) (value_is_sound (first.key + 1) high sums k fits.2.1)
      (mask_is_sound slot k good))
      ∙ ap (λ e. r.add e (masked r (nat_eq slot.key k) slot.elem)) (sym (value_in-first low high first sums k fits))

  fits-higher : (low mid high : ℕ) (slots : List (Slot E)) → mid ≤ high → FitsSlots r low mid slots
      → FitsSlots r low high slots
  fits-higher low mid high [] above fits = tt
  fits-higher low mid high (slot ∷ slots) above fits =
      let below : slot.key < mid = fits.1 in
      (fits.0, omega arith, (fits.2.0, fits-higher (slot.key + 1) mid high slots above fits.2.1))

  pub fits-more : (top : ℕ) (slots : List (Slot E)) (i : ℕ) (slot : Slot E) → i < length slots
      → slot ≡ slice_index_or slots i slot
      → FitsSlots r 0 top (take i slots) → top ≤ slot.key → IsGood r slot.elem
      → FitsSlots r 0 (slot.key + 1) (take (i + 1) slots)
  fits-more top slots i slot within is fits past good =
      subst (FitsSlots r 0 (slot.key + 1))
      (sym (take_more slots i slot within ∙ ap (λ s. take i slots ++ s ∷ []) (sym is)))
      (fits-push 0 top (take i slots) slot fits (omega arith) past good)

  pub fits-all : (top high : ℕ) (slots : List (Slot E)) (i : ℕ) → length slots ≤ i → top ≤ high
      → FitsSlots r 0 top (take i slots)
      → FitsSlots r 0 high slots
  fits-all top high slots i past within fits =
      subst (FitsSlots r 0 high) (take_all i slots past) (fits-higher 0 top high (take i slots) within fits)

  module _ (high : ℕ) (a b : List (Slot E)) (a_fits : FitsSlots r 0 high a) (b_fits : FitsSlots r 0 high b) where
    sums_are_sound : (k : ℕ) → r.is_sound (r.add (value_in r.zero a k) (value_in r.zero b k))
    sums_are_sound k =
        laws.addition.monoid.product_is_element (value_in r.zero a k) (value_in r.zero b k)
        (value_is_sound 0 high a k a_fits) (value_is_sound 0 high b k b_fits)

    pub merging-start : IsMerging r high a b [] a b
    merging-start = record {
      low = 0;
      within = omega arith;
      sums_fit = tt;
      left_fits = a_fits;
      right_fits = b_fits;
      values = λ k. laws.addition.monoid.left_identity (r.add (value_in r.zero a k) (value_in r.zero b k))
          (sums_are_sound k);
      few = omega arith;
    }

    pub merging-step : (sums left right : List (Slot E)) (slot : Slot E) (more fewer : List (Slot E))
        → (merging : IsMerging r high a b sums left right) → IsNext r merging.low high left right slot more fewer
        → IsMerging r high a b (sums ++ slot ∷ []) more fewer
    merging-step sums left right slot more fewer merging next =
        let above : merging.low ≤ slot.key = next.above in
        let below : slot.key < high = next.below in
        record {
          low = slot.key + 1;
          within = omega arith;
          sums_fit = fits-push 0 merging.low sums slot merging.sums_fit (omega arith) above next.is_good;
          left_fits = next.left_fits;
          right_fits = next.right_fits;
          values = λ k.
              let here = masked r (nat_eq slot.key k) slot.elem in
              let rest = r.add (value_in r.zero more k) (value_in r.zero fewer k) in
              ap (λ e. r.add e rest)
              (value_in-push 0 merging.low sums slot k merging.sums_fit (omega arith) above next.is_good)
              ∙ laws.addition.monoid.associative (value_in r.zero sums k) here rest
              (value_is_sound 0 merging.low sums k merging.sums_fit)
              (mask_is_sound slot k next.is_good)
              (laws.addition.monoid.product_is_element (value_in r.zero more k) (value_in r.zero fewer k)
              (value_is_sound (slot.key + 1) high more k next.left_fits)
              (value_is_sound (slot.key + 1) high fewer k next.right_fits))
              ∙ ap (r.add (value_in r.zero sums k)) (next.values k)
              ∙ merging.values k;
          few =
              let pushed = length_push sums slot in
              let before = merging.few in
              let less = next.fewer in
              omega arith;
        }

    pub merging-end : (sums left right : List (Slot E)) → IsMerging r high a b sums left right → left ≡ [] → right ≡ []
        → FitsSlots r 0 high sums
        × ((k : ℕ) → value_in r.zero sums k ≡ r.add (value_in r.zero a k) (value_in r.zero b k))
        × (length sums ≤ length a + length b)
    merging-end sums left right merging no_left no_right = (
      fits-higher 0 merging.low high sums merging.within merging.sums_fit,
      λ k.
          sym (laws.addition.monoid.right_identity (value_in r.zero sums k)
          (value_is_sound 0 merging.low sums k merging.sums_fit))
          ∙ ap (r.add (value_in r.zero sums k))
          (sym (laws.addition.monoid.left_identity r.zero laws.addition.monoid.unit_is_element))
          ∙ ap (λ slots. r.add (value_in r.zero sums k) (r.add (value_in r.zero slots k) r.zero)) (sym no_left)
          ∙ ap (λ slots. r.add (value_in r.zero sums k) (r.add (value_in r.zero left k) (value_in r.zero slots k)))
          (sym no_right)
          ∙ merging.values k,
      let few = merging.few in omega arith,
    )

    -- what the least slot of both that are left tells
    module _ (sums left right : List (Slot E)) (merging : IsMerging r high a b sums left right)
        (least : Option (Slot E))
        (is : least ≡ least_slot r left right) where
      pub next_of : (slot : Slot E) → least ≡ Some slot
          → IsNext r merging.low high left right slot (after_key slot.key left) (after_key slot.key right)
      next_of slot some =
          subst
          (λ o. MatchOption o ((left ≡ []) × (right ≡ []))
          (λ s. IsNext r merging.low high left right s (after_key s.key left) (after_key s.key right)))
          (sym is ∙ some)
          (least_is_next merging.low high left right merging.left_fits merging.right_fits)

      pub none_left : least ≡ None → (left ≡ []) × (right ≡ [])
      none_left none =
          subst
          (λ o. MatchOption o ((left ≡ []) × (right ≡ []))
          (λ s. IsNext r merging.low high left right s (after_key s.key left) (after_key s.key right)))
          (sym is ∙ none)
          (least_is_next merging.low high left right merging.left_fits merging.right_fits)
