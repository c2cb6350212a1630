-- How loose slots are put one after the other, and how they are gathered in a row from the last to the first.
use Rattle.std.proofs.Common.{◌≡◌, ℕ, ◌+◌, ◌<◌, ◌≤◌, List, [], ◌∷◌, ◌++◌, length, replicate, nat_eq, Option, None}
use Rattle.std.proofs.Common.{inl, inr, refl, sym, ap, subst, ◌∙◌, arith}
use Rattle.std.proofs.lemmas.List.{length_push}
use Rattle.std.specs.Prelude.{slice_index_or}
use Rattle.monoid_kit.specs.Items.{AllElements}
use Rattle.monoid_kit.proofs.Items.{AllElements-append, IsIn-append_left, IsIn-append_right}
use Rattle.monoid_kit.proofs.Keyed.{keyed-is_element}
use Rattle.monoid_kit.proofs.Products.{product_by-append, only-mul}
use Rattle.semiring_kit.specs.Semiring.{SemiringOn, IsSemiring, IsGood}
use Rattle.semiring_kit.specs.Total.{masked, total_at_key}
use Rattle.semiring_kit.proofs.Sums.{good_are_sound, masked_is_good, add_is_good}
use Rattle.key_map.specs.declared.slot.Slot.{Slot}
use Rattle.key_map.specs.Maps.{alone}
use Rattle.key_map.specs.Slots.{key_of, elem_of, value_in, FitsSlots}
use Rattle.key_map.specs.Rows.{value_of, value_in_row, IsGoodRow, IsGathered, slots_from}
use Rattle.key_map.specs.Loose.{AreLoose, IsPut}
use Rattle.key_map.proofs.Slots.{fits-slots_from, value_in-slots_from, slots_from-empty}
use Rattle.key_map.proofs.Rows.{get_or-replicate_none, row_is_sound}
use Rattle.key_map.proofs.Maps.{empty-length, empty-IsGoodRow}

all_of_one : {E A : Type 0} (P : A → Type 0) (f : Slot E → A) (slot : Slot E) → P (f slot) → AllElements P f (slot ∷ [])
all_of_one P f slot holds = λ other other_in. elim other_in [
  | inl same ↦ subst (λ s. P (f s)) (sym same) holds
  | inr none ↦ absurd none
]

mask_is_sound : {E : Type 0} {r : SemiringOn E} (laws : IsSemiring r) (key : ℕ) (elem : E) (k : ℕ) → IsGood r elem
    → r.is_sound (masked r (nat_eq key k) elem)
mask_is_sound laws key elem k good = (masked_is_good laws (nat_eq key k) elem good).sound

module _ {E : Type 0} {r : SemiringOn E} (laws : IsSemiring r) {size : ℕ} where
  loose-push : (slots : List (Slot E)) (slot : Slot E) → AreLoose r size slots → slot.key < size → IsGood r slot.elem
      → AreLoose r size (slots ++ slot ∷ [])
  loose-push slots slot loose key_in good = record {
    keys = AllElements-append (λ key. key < size) key_of slots (slot ∷ []) loose.keys
        (all_of_one (λ key. key < size) key_of slot key_in);
    elems = AllElements-append (IsGood r) elem_of slots (slot ∷ []) loose.elems
        (all_of_one (IsGood r) elem_of slot good);
  }

  loose-front : (slots : List (Slot E)) (slot : Slot E) → AreLoose r size (slots ++ slot ∷ []) → AreLoose r size slots
  loose-front slots slot loose = record {
    keys = λ other other_in. loose.keys other (IsIn-append_left slots (slot ∷ []) other other_in);
    elems = λ other other_in. loose.elems other (IsIn-append_left slots (slot ∷ []) other other_in);
  }

  pub loose-last_key : (slots : List (Slot E)) (slot : Slot E) → AreLoose r size (slots ++ slot ∷ []) → slot.key < size
  loose-last_key slots slot loose = loose.keys slot (IsIn-append_right slots (slot ∷ []) slot (inl refl))

  pub loose-last_elem : (slots : List (Slot E)) (slot : Slot E) → AreLoose r size (slots ++ slot ∷ [])
      → IsGood r slot.elem
  loose-last_elem slots slot loose = loose.elems slot (IsIn-append_right slots (slot ∷ []) slot (inl refl))

  loose-sound : (slots : List (Slot E)) (k : ℕ) → AreLoose r size slots
      → r.is_sound (total_at_key r key_of elem_of slots k)
  loose-sound slots k loose = keyed-is_element laws.addition key_of elem_of slots k
      (good_are_sound laws elem_of slots loose.elems)

  pushed-sum : (slots : List (Slot E)) (slot : Slot E) (k : ℕ) → AreLoose r size slots → IsGood r slot.elem
      → total_at_key r key_of elem_of (slots ++ slot ∷ []) k
      ≡ r.add (total_at_key r key_of elem_of slots k) (masked r (nat_eq slot.key k) slot.elem)
  pushed-sum slots slot k loose good =
      let at = λ (s : Slot E). masked r (nat_eq (key_of s) k) (elem_of s) in
      let at_sound = λ (s : Slot E) (s_good : IsGood r (elem_of s)). mask_is_sound laws (key_of s) (elem_of s) k
      s_good in
      product_by-append laws.addition.monoid at slots (slot ∷ [])
      (λ s s_in. at_sound s (loose.elems s s_in))
      (λ s s_in. at_sound s (all_of_one (IsGood r) elem_of slot good s s_in))
      ∙ ap (r.add (total_at_key r key_of elem_of slots k))
      (laws.addition.monoid.right_identity (at slot) (at_sound slot good))

  -- a slot at the end, or a value added to the last slot

  pub put-behind : (old new : List (Slot E)) (key : ℕ) (elem : E) → AreLoose r size old → key < size → IsGood r elem
      → new ≡ old ++ record { key = key; elem = elem } ∷ [] → IsPut r size old new (alone r key elem)
  put-behind old new key elem loose key_in good is =
      let slot : Slot E = record { key = key; elem = elem } in
      subst (λ l. IsPut r size old l (alone r key elem)) (sym is)
      (record {
        are_loose = loose-push old slot loose key_in good;
        sums = λ k. pushed-sum old slot k loose good;
        few = let long = length_push old slot in omega arith;
      })

  pub put-same : (old front new : List (Slot E)) (held : Slot E) (key : ℕ) (elem sum : E) → AreLoose r size old
      → key < size → IsGood r elem
      → old ≡ front ++ held ∷ [] → held.key ≡ key → sum ≡ r.add held.elem elem
      → new ≡ front ++ record { key = key; elem = sum } ∷ [] → IsPut r size old new (alone r key elem)
  put-same old front new held key elem sum loose key_in good split at_key added is =
      let slot : Slot E = record { key = key; elem = sum } in
      let all : AreLoose r size (front ++ held ∷ []) = subst (AreLoose r size) split loose in
      let front_loose = loose-front front held all in
      let held_good = loose-last_elem front held all in
      let slot_good : IsGood r sum = subst (IsGood r) (sym added) (add_is_good laws held.elem elem held_good good) in
      subst (λ l. IsPut r size old l (alone r key elem)) (sym is)
      (record {
        are_loose = loose-push front slot front_loose key_in slot_good;
        sums = λ k.
            let so_far = total_at_key r key_of elem_of front k in
            let held_at : masked r (nat_eq held.key k) held.elem ≡ masked r (nat_eq key k) held.elem =
            ap (λ j. masked r (nat_eq j k) held.elem) at_key in
            pushed-sum front slot k front_loose slot_good
            ∙ ap (λ e. r.add so_far (masked r (nat_eq key k) e)) added
            ∙ ap (r.add so_far) (only-mul laws.addition.monoid (nat_eq key k) held.elem elem)
            ∙ sym (laws.addition.monoid.associative so_far (masked r (nat_eq key k) held.elem)
            (masked r (nat_eq key k) elem)
            (loose-sound front k front_loose) (mask_is_sound laws key held.elem k held_good)
            (mask_is_sound laws key elem k good))
            ∙ ap (λ e. r.add (r.add so_far e) (masked r (nat_eq key k) elem)) (sym held_at)
            ∙ ap (λ e. r.add e (masked r (nat_eq key k) elem)) (sym (pushed-sum front held k front_loose held_good))
            ∙ ap (λ l. r.add (total_at_key r key_of elem_of l k) (masked r (nat_eq key k) elem)) (sym split);
        few =
            let long = length_push front slot in
            let before = ap length split in
            let held_long = length_push front held in
            omega arith;
      })

-- a list without an item
pub no_item : {X : Type 0} (xs : List X) → length xs ≡ 0 → xs ≡ []
no_item [] none = refl
no_item (x ∷ xs) none = absurd (omega arith)

-- what is in the row, and the slots that are left, have the sums of all slots
pub record IsGathering {E : Type 0} (r : SemiringOn E) (size : ℕ) (all : List (Slot E)) (row : List (Option E))
    (left : List (Slot E)) : Type 0 where
  pub has_size : length row ≡ size
  pub row_is_good : IsGoodRow r row
  pub are_loose : AreLoose r size left
  pub sums : (k : ℕ) → r.add (value_in_row r.zero row k) (total_at_key r key_of elem_of left k) ≡ total_at_key r
      key_of elem_of all k
  pub few : length (slots_from 0 row) + length left ≤ length all

module _ {E : Type 0} {r : SemiringOn E} (laws : IsSemiring r) (size : ℕ) (all : List (Slot E)) where
  pub gathering-start : (row : List (Option E)) → row ≡ replicate size None → AreLoose r size all
      → IsGathering r size all row all
  gathering-start row empty loose = record {
    has_size = empty-length r size row empty;
    row_is_good = empty-IsGoodRow r size row empty;
    are_loose = loose;
    sums = λ k.
        let sum = total_at_key r key_of elem_of all k in
        ap (λ place. r.add (value_of r.zero place) sum)
        (ap (λ places. slice_index_or places k None) empty ∙ get_or-replicate_none E size k)
        ∙ laws.addition.monoid.left_identity sum (loose-sound laws all k loose);
    few = let none = ap (λ places. length (slots_from 0 places)) empty
        ∙ ap length (slots_from-empty 0 size) in omega (arith, none);
  }

  pub gathering-step : (row new : List (Option E)) (before left : List (Slot E)) (slot : Slot E)
      → IsGathering r size all row before
      → before ≡ left ++ slot ∷ [] → IsGathered r row new (alone r slot.key slot.elem)
      → length (slots_from 0 new) ≤ length (slots_from 0 row) + 1
      → IsGathering r size all new left
  gathering-step row new before left slot gathering split gathered one_more =
      let loose : AreLoose r size (left ++ slot ∷ []) = subst (AreLoose r size) split gathering.are_loose in
      let left_loose = loose-front laws left slot loose in
      let good = loose-last_elem laws left slot loose in
      record {
        has_size = gathered.same_length ∙ gathering.has_size;
        row_is_good = gathered.values_are_good;
        are_loose = left_loose;
        sums = λ k.
            let held = value_in_row r.zero row k in
            let here = masked r (nat_eq slot.key k) slot.elem in
            let rest = total_at_key r key_of elem_of left k in
            let held_sound = row_is_sound laws row k gathering.row_is_good in
            let here_sound = mask_is_sound laws slot.key slot.elem k good in
            let rest_sound = loose-sound laws left k left_loose in
            ap (λ e. r.add e rest) (gathered.values k)
            ∙ laws.addition.monoid.associative held here rest held_sound here_sound rest_sound
            ∙ ap (r.add held) (laws.addition.commutative here rest here_sound rest_sound)
            ∙ ap (r.add held) (sym (pushed-sum laws left slot k left_loose good))
            ∙ ap (λ l. r.add held (total_at_key r key_of elem_of l k)) (sym split)
            ∙ gathering.sums k;
        few =
            let before_long = ap length split in
            let long = length_push left slot in
            let so_far = gathering.few in
            omega arith;
      }

  module _ (row : List (Option E)) (left : List (Slot E)) (none : left ≡ [])
      (gathering : IsGathering r size all row left) where
    pub gathering-fits : FitsSlots r 0 size (slots_from 0 row)
    gathering-fits = let long = gathering.has_size in fits-slots_from r 0 size row (omega arith) gathering.row_is_good

    pub gathering-value : (k : ℕ) → value_in r.zero (slots_from 0 row) k ≡ total_at_key r key_of elem_of all k
    gathering-value k =
        let long = gathering.has_size in
        let held = value_in_row r.zero row k in
        ap (value_in r.zero (slots_from 0 row)) (let e : k ≡ 0 + k = omega arith in e)
        ∙ value_in-slots_from r 0 size row k (omega arith) gathering.row_is_good
        ∙ sym (laws.addition.monoid.right_identity held (row_is_sound laws row k gathering.row_is_good))
        ∙ ap (λ l. r.add held (total_at_key r key_of elem_of l k)) (sym none)
        ∙ gathering.sums k

    pub gathering-kept : length (slots_from 0 row) ≤ length all
    gathering-kept = let few = gathering.few in omega arith
