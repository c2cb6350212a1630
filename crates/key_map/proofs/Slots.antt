-- Lemmas on lists of slots that fit: their sums by key, and the slots that a row gives.
use Rattle.std.proofs.Common.{◌≡◌, ℕ, zero, suc, ◌+◌, ◌<◌, ◌≤◌, ◌≢◌, Bool, true, false, List, [], ◌∷◌, ◌++◌, length}
use Rattle.std.proofs.Common.{nat_eq, cond, set, replicate, Option, Some, None, inl, inr, refl, sym, ap, subst, ◌∙◌}
use Rattle.std.proofs.Common.{arith}
use Rattle.std.proofs.lemmas.List.{append-nil, set-set}
use Rattle.std.specs.Prelude.{slice_index_or}
use Rattle.std.proofs.lemmas.Bool.{eqb-true, eq-eqb, ne_eqb}
use Rattle.monoid_kit.specs.Items.{IsIn, AllElements}
use Rattle.monoid_kit.proofs.Items.{IsIn-get_or}
use Rattle.semiring_kit.specs.Semiring.{SemiringOn, IsSemiring, IsGood}
use Rattle.semiring_kit.specs.Total.{total_at_key, masked}
use Rattle.semiring_kit.proofs.Sums.{good_are_sound}
use Rattle.monoid_kit.proofs.Keyed.{keyed-is_element}
use Rattle.key_map.specs.declared.slot.Slot.{Slot}
use Rattle.key_map.specs.Slots.{key_of, elem_of, value_in, FitsSlots, KeysAscend}
use Rattle.key_map.specs.Rows.{value_in_row, IsGoodRow, slots_from}

module _ {E : Type 0} where
  pub slots_from-push : (low : ℕ) (row : List (Option E)) (place : Option E)
      → slots_from low (row ++ place ∷ []) ≡ slots_from low row ++ slots_from (low + length row) (place ∷ [])
  slots_from-push low [] place = ap (λ k. slots_from k (place ∷ [])) (omega arith)
  slots_from-push low (None ∷ row) place =
      slots_from-push (low + 1) row place
      ∙ ap (λ k. slots_from (low + 1) row ++ slots_from k (place ∷ [])) (omega arith)
  slots_from-push low (Some value ∷ row) place =
      ap (λ slots. record { key = low; elem = value } ∷ slots)
      (slots_from-push (low + 1) row place
      ∙ ap (λ k. slots_from (low + 1) row ++ slots_from k (place ∷ [])) (omega arith))

  -- one more place, with a value or without
  pub slots_from-push_some : (row : List (Option E)) (place : Option E) (before after : List (Slot E)) (key : ℕ)
      (elem : E)
      → before ≡ slots_from 0 row → key ≡ length row → place ≡ Some elem
      → after ≡ before ++ record { key = key; elem = elem } ∷ []
      → after ≡ slots_from 0 (row ++ place ∷ [])
  slots_from-push_some row place before after key elem kept count is pushed =
      pushed
      ∙ ap (λ slots. slots ++ record { key = key; elem = elem } ∷ []) kept
      ∙ ap (λ k. slots_from 0 row ++ record { key = k; elem = elem } ∷ [])
      (let e : key ≡ 0 + length row = omega arith in e)
      ∙ sym (slots_from-push 0 row (Some elem))
      ∙ ap (λ p. slots_from 0 (row ++ p ∷ [])) (sym is)

  pub slots_from-push_none : (row : List (Option E)) (place : Option E) (slots : List (Slot E))
      → slots ≡ slots_from 0 row → place ≡ None → slots ≡ slots_from 0 (row ++ place ∷ [])
  slots_from-push_none row place slots kept is =
      kept
      ∙ sym (append-nil (slots_from 0 row))
      ∙ sym (slots_from-push 0 row None)
      ∙ ap (λ p. slots_from 0 (row ++ p ∷ [])) (sym is)

  pub slots_from-empty : (low n : ℕ) → slots_from low (replicate {A = Option E} n None) ≡ []
  slots_from-empty low zero = refl
  slots_from-empty low (suc n) = slots_from-empty (low + 1) n

  -- a place that is set makes one slot more at most
  slots_from-set : (low : ℕ) (row : List (Option E)) (key : ℕ) (place : Option E)
      → length (slots_from low (set row key place)) ≤ length (slots_from low row) + 1
  slots_from-set low [] key place = omega arith
  slots_from-set low (None ∷ row) zero None = omega arith
  slots_from-set low (None ∷ row) zero (Some value) = omega arith
  slots_from-set low (Some held ∷ row) zero None = omega arith
  slots_from-set low (Some held ∷ row) zero (Some value) = omega arith
  slots_from-set low (None ∷ row) (suc key) place = slots_from-set (low + 1) row key place
  slots_from-set low (Some held ∷ row) (suc key) place =
      let rest = slots_from-set (low + 1) row key place in omega arith

  pub slots_from-take : (row : List (Option E)) (key : ℕ) (left : Option E) (value : E)
      → length (slots_from 0 (set (set row key left) key (Some value))) ≤ length (slots_from 0 row) + 1
  slots_from-take row key left value =
      subst (λ new. length (slots_from 0 new) ≤ length (slots_from 0 row) + 1) (sym (set-set row key left (Some value)))
      (slots_from-set 0 row key (Some value))

module _ {E : Type 0} (r : SemiringOn E) where
  pub fits-lower : (low mid high : ℕ) (slots : List (Slot E)) → low ≤ mid → FitsSlots r mid high slots
      → FitsSlots r low high slots
  fits-lower low mid high [] below fits = tt
  fits-lower low mid high (slot ∷ slots) below fits =
      let above : mid ≤ slot.key = fits.0 in
      (omega arith, fits.1, fits.2)

  pub fits-keys : (low high : ℕ) (slots : List (Slot E)) → FitsSlots r low high slots
      → AllElements (λ k. k < high) key_of slots
  fits-keys low high [] fits = λ slot slot_in. absurd slot_in
  fits-keys low high (slot ∷ slots) fits = λ other other_in. elim other_in [
    | inl same ↦ subst (λ s. key_of s < high) (sym same) fits.1
    | inr later ↦ fits-keys (slot.key + 1) high slots fits.2.1 other later
  ]

  pub fits-good : (low high : ℕ) (slots : List (Slot E)) → FitsSlots r low high slots
      → AllElements (IsGood r) elem_of slots
  fits-good low high [] fits = λ slot slot_in. absurd slot_in
  fits-good low high (slot ∷ slots) fits = λ other other_in. elim other_in [
    | inl same ↦ subst (λ s. IsGood r (elem_of s)) (sym same) fits.2.0
    | inr later ↦ fits-good (slot.key + 1) high slots fits.2.1 other later
  ]

  pub fits-above : (low high : ℕ) (slots : List (Slot E)) → FitsSlots r low high slots
      → AllElements (λ k. low ≤ k) key_of slots
  fits-above low high [] fits = λ slot slot_in. absurd slot_in
  fits-above low high (slot ∷ slots) fits = λ other other_in. elim other_in [
    | inl same ↦ subst (λ s. low ≤ key_of s) (sym same) fits.0
    | inr later ↦
        let here : low ≤ slot.key = fits.0 in
        let past : slot.key + 1 ≤ other.key = fits-above (slot.key + 1) high slots fits.2.1 other later in
        omega arith
  ]

  pub value_in-at_slot : (low high : ℕ) (slots : List (Slot E)) (slot : Slot E) → FitsSlots r low high slots
      → IsIn slot slots
      → value_in r.zero slots slot.key ≡ slot.elem
  value_in-at_slot low high [] slot fits slot_in = absurd slot_in
  value_in-at_slot low high (first ∷ slots) slot fits slot_in = elim slot_in [
    | inl same ↦
        ap (λ t. cond t first.elem (value_in r.zero slots slot.key)) (eq-eqb first.key slot.key (ap key_of (sym same)))
        ∙ ap elem_of (sym same)
    | inr later ↦
        let past : first.key + 1 ≤ slot.key = fits-above (first.key + 1) high slots fits.2.1 slot later in
        ap (λ t. cond t first.elem (value_in r.zero slots slot.key))
        (ne_eqb first.key slot.key (λ same. absurd (omega arith)))
        ∙ value_in-at_slot (first.key + 1) high slots slot fits.2.1 later
  ]

  pub value_in-below : (low high : ℕ) (slots : List (Slot E)) (k : ℕ) → FitsSlots r low high slots → k < low
      → value_in r.zero slots k ≡ r.zero
  value_in-below low high [] k fits below = refl
  value_in-below low high (slot ∷ slots) k fits below =
      let above : low ≤ slot.key = fits.0 in
      ap (λ t. cond t slot.elem (value_in r.zero slots k)) (ne_eqb slot.key k (λ same. absurd (omega arith)))
      ∙ value_in-below (slot.key + 1) high slots k fits.2.1 (omega arith)

  pub fits-ascend : (low high : ℕ) (slots : List (Slot E)) → FitsSlots r low high slots → KeysAscend slots
  fits-ascend low high [] fits i j default before in_slots = absurd (omega arith)
  fits-ascend low high (slot ∷ slots) fits i zero default before in_slots = absurd (omega arith)
  fits-ascend low high (slot ∷ slots) fits zero (suc j) default before in_slots =
      let later = slice_index_or slots j default in
      let past : slot.key + 1 ≤ later.key =
      fits-above (slot.key + 1) high slots fits.2.1 later (IsIn-get_or slots j default (omega arith)) in
      omega arith
  fits-ascend low high (slot ∷ slots) fits (suc i) (suc j) default before in_slots =
      fits-ascend (slot.key + 1) high slots fits.2.1 i j default (omega arith) (omega arith)

  pub value_in-absent : (slots : List (Slot E)) (k : ℕ) → AllElements (λ other. other ≢ k) key_of slots
      → value_in r.zero slots k ≡ r.zero
  value_in-absent [] k absent = refl
  value_in-absent (slot ∷ slots) k absent =
      ap (λ t. cond t slot.elem (value_in r.zero slots k)) (ne_eqb slot.key k (absent slot (inl refl)))
      ∙ value_in-absent slots k (λ later later_in. absent later (inr later_in))

  -- the slots of a row fit, and keep what the row holds

  pub fits-slots_from : (low high : ℕ) (row : List (Option E)) → low + length row ≤ high → IsGoodRow r row
      → FitsSlots r low high (slots_from low row)
  fits-slots_from low high [] within good = tt
  fits-slots_from low high (None ∷ row) within good =
      fits-lower low (low + 1) high (slots_from (low + 1) row) (omega arith)
      (fits-slots_from (low + 1) high row (omega arith) (λ k. good (suc k)))
  fits-slots_from low high (Some value ∷ row) within good =
      (omega arith, omega arith, (good 0, fits-slots_from (low + 1) high row (omega arith) (λ k. good (suc k))))

  pub value_in-slots_from : (low high : ℕ) (row : List (Option E)) (k : ℕ) → low + length row ≤ high → IsGoodRow r row
      → value_in r.zero (slots_from low row) (low + k) ≡ value_in_row r.zero row k
  value_in-slots_from low high [] k within good = refl
  value_in-slots_from low high (None ∷ row) zero within good =
      value_in-below (low + 1) high (slots_from (low + 1) row) (low + 0)
      (fits-slots_from (low + 1) high row (omega arith) (λ k. good (suc k))) (omega arith)
  value_in-slots_from low high (None ∷ row) (suc k) within good =
      ap (value_in r.zero (slots_from (low + 1) row)) (let e : low + suc k ≡ (low + 1) + k = omega arith in e)
      ∙ value_in-slots_from (low + 1) high row k (omega arith) (λ j. good (suc j))
  value_in-slots_from low high (Some value ∷ row) zero within good =
      ap (λ t. cond t value (value_in r.zero (slots_from (low + 1) row) (low + 0))) (eq-eqb low (low + 0) (omega arith))
  value_in-slots_from low high (Some value ∷ row) (suc k) within good =
      ap (λ t. cond t value (value_in r.zero (slots_from (low + 1) row) (low + suc k)))
      (ne_eqb low (low + suc k) (λ same. absurd (omega arith)))
      ∙ ap (value_in r.zero (slots_from (low + 1) row)) (let e : low + suc k ≡ (low + 1) + k = omega arith in e)
      ∙ value_in-slots_from (low + 1) high row k (omega arith) (λ j. good (suc j))

module _ {E : Type 0} {r : SemiringOn E} (laws : IsSemiring r) where
  total_at_key-below : (low high : ℕ) (slots : List (Slot E)) (k : ℕ) → FitsSlots r low high slots → k < low
      → total_at_key r key_of elem_of slots k ≡ r.zero
  total_at_key-below low high [] k fits below = refl
  total_at_key-below low high (slot ∷ slots) k fits below =
      let above : low ≤ slot.key = fits.0 in
      let rest = total_at_key r key_of elem_of slots k in
      ap (λ t. r.add (masked r t slot.elem) rest) (ne_eqb slot.key k (λ same. absurd (omega arith)))
      ∙ ap (r.add r.zero) (total_at_key-below (slot.key + 1) high slots k fits.2.1 (omega arith))
      ∙ laws.addition.monoid.left_identity r.zero laws.addition.monoid.unit_is_element

  pub value_in-cons : (test : Bool) (a b : E) → r.is_sound a → r.is_sound b → (test ≡ true → b ≡ r.zero)
      → cond test a b ≡ r.add (masked r test a) b
  value_in-cons true a b a_sound b_sound none =
      sym (laws.addition.monoid.right_identity a a_sound) ∙ ap (r.add a) (sym (none refl))
  value_in-cons false a b a_sound b_sound none = sym (laws.addition.monoid.left_identity b b_sound)

  -- what is kept for a key is the sum over the slots with that key, of which there is at most one
  pub value_in-total : (low high : ℕ) (slots : List (Slot E)) (k : ℕ) → FitsSlots r low high slots
      → value_in r.zero slots k ≡ total_at_key r key_of elem_of slots k
  value_in-total low high [] k fits = refl
  value_in-total low high (slot ∷ slots) k fits =
      ap (cond (nat_eq slot.key k) slot.elem) (value_in-total (slot.key + 1) high slots k fits.2.1)
      ∙ value_in-cons (nat_eq slot.key k) slot.elem (total_at_key r key_of elem_of slots k) fits.2.0.sound
      (keyed-is_element laws.addition key_of elem_of slots k
      (good_are_sound laws elem_of slots (fits-good r (slot.key + 1) high slots fits.2.1)))
      (λ same. total_at_key-below (slot.key + 1) high slots k fits.2.1
      (let here : slot.key ≡ k = eqb-true slot.key k same in omega arith))
