-- From a row in which values were gathered to the map of its slots.
use Rattle.std.proofs.Common.{◌≡◌, ℕ, ◌+◌, ◌<◌, ◌≤◌, ◌≢◌, List, length, replicate, nat_eq, Option, None, sym, ap}
use Rattle.std.proofs.Common.{subst, ◌∙◌, arith}
use Rattle.std.proofs.lemmas.List.{length-replicate}
use Rattle.std.specs.Prelude.{slice_index_or}
use Rattle.monoid_kit.specs.Items.{IsIn, AllElements}
use Rattle.semiring_kit.specs.Semiring.{SemiringOn, IsSemiring, IsGood, weight_bound}
use Rattle.semiring_kit.specs.Total.{total, total_at_key}
use Rattle.semiring_kit.proofs.Sums.{total-is_sound, good_are_sound}
use Rattle.monoid_kit.proofs.Products.{only-is_element}
use Rattle.key_map.specs.declared.slot.Slot.{Slot}
use Rattle.key_map.specs.Convolution.{convolution}
use Rattle.key_map.specs.Slots.{key_of, elem_of, value_in, product_at, products_at, FitsSlots, KeysAscend}
use Rattle.key_map.specs.Rows.{value_of, IsGoodPlace, IsGoodRow, IsGathered, slots_from}
use Rattle.key_map.proofs.Slots.{fits-keys, fits-good, fits-ascend, value_in-total, value_in-at_slot, value_in-absent}
use Rattle.key_map.proofs.Slots.{value_in-slots_from, fits-slots_from}
use Rattle.key_map.proofs.Rows.{get_or-replicate_none, gathered-same}
use Rattle.key_map.proofs.Convolutions.{convolution-same, convolution_of_totals}

module _ {E : Type 0} (r : SemiringOn E) (size : ℕ) (row : List (Option E)) (empty : row ≡ replicate size None) where
  pub empty-length : length row ≡ size
  empty-length = ap length empty ∙ length-replicate size None

  pub empty-IsGoodRow : IsGoodRow r row
  empty-IsGoodRow k =
      subst (IsGoodPlace r) (sym (ap (λ places. slice_index_or places k None) empty ∙ get_or-replicate_none E size k))
      (let none : IsGoodPlace r None = tt in none)

module _ {E : Type 0} {r : SemiringOn E} (laws : IsSemiring r) (size : ℕ) (row new : List (Option E)) (added : ℕ → E)
    (empty : row ≡ replicate size None) (gathered : IsGathered r row new added) where
  new-length : length new ≡ size
  new-length = gathered.same_length ∙ empty-length r size row empty

  pub slots-fit : FitsSlots r 0 size (slots_from 0 new)
  slots-fit = let long = new-length in fits-slots_from r 0 size new (omega arith) gathered.values_are_good

  pub slots-value : (k : ℕ) → r.is_sound (added k) → value_in r.zero (slots_from 0 new) k ≡ added k
  slots-value k sound =
      let long = new-length in
      ap (value_in r.zero (slots_from 0 new)) (let e : k ≡ 0 + k = omega arith in e)
      ∙ value_in-slots_from r 0 size new k (omega arith) gathered.values_are_good
      ∙ gathered.values k
      ∙ ap (λ place. r.add (value_of r.zero place) (added k))
      (ap (λ places. slice_index_or places k None) empty ∙ get_or-replicate_none E size k)
      ∙ laws.addition.monoid.left_identity (added k) sound

-- what is known of slots that a map keeps
module _ {E : Type 0} (r : SemiringOn E) (size : ℕ) (kept given : List (Slot E)) (same : given ≡ kept)
    (fits : FitsSlots r 0 size kept) where
  pub keys-below : AllElements (λ key. key < size) key_of given
  keys-below slot slot_in = fits-keys r 0 size kept fits slot (subst (IsIn slot) same slot_in)

  pub given-ascend : KeysAscend given
  given-ascend = subst KeysAscend (sym same) (fits-ascend r 0 size kept fits)

  -- what is found in the slots, and what isn't, is what the map keeps
  pub value-found : (slot : Slot E) (key : ℕ) → IsIn slot given → slot.key ≡ key → slot.elem ≡ value_in r.zero kept key
  value-found slot key slot_in at_key =
      sym (value_in-at_slot r 0 size kept slot fits (subst (IsIn slot) same slot_in))
      ∙ ap (value_in r.zero kept) at_key

  pub value-absent : (key : ℕ) → AllElements (λ other. other ≢ key) key_of given → r.zero ≡ value_in r.zero kept key
  value-absent key absent =
      sym (value_in-absent r kept key (subst (AllElements (λ other. other ≢ key) key_of) same absent))

  pub given-good : AllElements (IsGood r) elem_of given
  given-good slot slot_in = fits-good r 0 size kept fits slot (subst (IsIn slot) same slot_in)

module _ {E : Type 0} {r : SemiringOn E} (laws : IsSemiring r) (size : ℕ) (a b : List (Slot E))
    (a_fits : FitsSlots r 0 size a) (b_fits : FitsSlots r 0 size b) where
  a_sound : AllElements r.is_sound elem_of a
  a_sound = good_are_sound laws elem_of a (fits-good r 0 size a a_fits)

  b_sound : AllElements r.is_sound elem_of b
  b_sound = good_are_sound laws elem_of b (fits-good r 0 size b b_fits)

  module _ (times : ℕ → ℕ → ℕ) where
    -- what the products of a left slot with the right slots add at a key
    pub products-are_sound : (left : Slot E) → IsIn left a → (k : ℕ)
        → r.is_sound (products_at r times left b k)
    products-are_sound left left_in k =
        total-is_sound laws (λ right. product_at r times left right k) b
        (λ right right_in. only-is_element laws.addition.monoid (nat_eq (times left.key right.key) k)
        (r.mul left.elem right.elem)
        (laws.multiplication.product_is_element left.elem right.elem (a_sound left left_in) (b_sound right right_in)))

    -- over all left slots, it is the convolution
    products-convolution : (k : ℕ)
        → total r (λ left. products_at r times left b k) a
        ≡ convolution r size times (value_in r.zero a) (value_in r.zero b) k
    products-convolution k =
        sym (convolution_of_totals laws size times key_of elem_of a key_of elem_of b k
        a_sound (fits-keys r 0 size a a_fits) b_sound (fits-keys r 0 size b b_fits))
        ∙ convolution-same r size times
        (total_at_key r key_of elem_of a) (value_in r.zero a) (total_at_key r key_of elem_of b) (value_in r.zero b) k
        (λ j. sym (value_in-total laws 0 size a j a_fits)) (λ j. sym (value_in-total laws 0 size b j b_fits))

    pub gathered-convolution : (row new : List (Option E))
        → IsGathered r row new (λ k. total r (λ left. products_at r times left b k) a)
        → IsGathered r row new (convolution r size times (value_in r.zero a) (value_in r.zero b))
    gathered-convolution row new gathered =
        gathered-same laws row new
        (λ k. total r (λ left. products_at r times left b k) a)
        (convolution r size times (value_in r.zero a) (value_in r.zero b))
        products-convolution gathered

    pub convolution-is_sound : (k : ℕ) → r.is_sound (convolution r size times (value_in r.zero a) (value_in r.zero b) k)
    convolution-is_sound k =
        subst r.is_sound (products-convolution k)
        (total-is_sound laws (λ left. products_at r times left b k) a
        (λ left left_in. products-are_sound left left_in k))

  -- reaches that add up at all keys do so at all slots
  pub reaches-at_slots : ((j k : ℕ) → r.reach (value_in r.zero a j) + r.reach (value_in r.zero b k) ≤ weight_bound)
      → (left : Slot E) → IsIn left a → AllElements (λ elem. r.reach left.elem + r.reach elem ≤ weight_bound) elem_of b
  reaches-at_slots add_up left left_in right right_in =
      let at_left = value_in-at_slot r 0 size a left a_fits left_in in
      let at_right = value_in-at_slot r 0 size b right b_fits right_in in
      subst (λ e. r.reach e + r.reach right.elem ≤ weight_bound) at_left
      (subst (λ e. r.reach (value_in r.zero a left.key) + r.reach e ≤ weight_bound) at_right
      (add_up left.key right.key))
