-- The products of one key and its value with the slots of a map: their sums by key are the convolution of the map that
-- has this value alone.
use Rattle.std.proofs.Common.{◌≡◌, ℕ, ◌+◌, ◌<◌, ◌≤◌, List, [], ◌∷◌, ◌++◌, length, take, nat_eq, inl, inr, refl, sym}
use Rattle.std.proofs.Common.{ap, subst, ◌∙◌, arith, length-append}
use Rattle.std.specs.Prelude.{slice_index_or}
use Rattle.std.proofs.lemmas.Bool.{eq-eqb}
use Rattle.std.proofs.lemmas.List.{take_more, take_all}
use Rattle.monoid_kit.specs.Items.{IsIn, AllElements}
use Rattle.monoid_kit.specs.Monoid.{IsMonoid}
use Rattle.monoid_kit.proofs.Items.{IsIn-take, IsIn-read}
use Rattle.monoid_kit.proofs.Products.{product_by-append}
use Rattle.semiring_kit.specs.Semiring.{SemiringOn, IsSemiring, IsGood, weight_bound}
use Rattle.semiring_kit.specs.Total.{masked, total, total_at_key}
use Rattle.semiring_kit.proofs.Sums.{good_are_sound, masked_is_good, mul_is_good, total-is_sound}
use Rattle.key_map.specs.declared.slot.Slot.{Slot}
use Rattle.key_map.specs.Maps.{alone, ReachesAddUp}
use Rattle.key_map.specs.Convolution.{convolution}
use Rattle.key_map.specs.Slots.{key_of, elem_of, product_of, value_in, FitsSlots}
use Rattle.key_map.specs.Loose.{AreLoose, IsPut}
use Rattle.key_map.proofs.Slots.{fits-keys, fits-good, value_in-total, value_in-at_slot}
use Rattle.key_map.proofs.Convolutions.{convolution-same, convolution_of_totals}

-- what the product with one slot has at key k
abbrev pub shift_at : {E : Type 0} → SemiringOn E → (ℕ → ℕ → ℕ) → ℕ → E → Slot E → ℕ → E
shift_at r times key elem slot k = masked r (nat_eq (times key slot.key) k) (r.mul elem slot.elem)

-- the loose slots are the products with the first slots
pub record IsShifting {E : Type 0} (r : SemiringOn E) (size : ℕ) (times : ℕ → ℕ → ℕ) (key : ℕ) (elem : E)
    (done slots : List (Slot E)) : Type 0 where
  pub are_loose : AreLoose r size slots
  pub sums : (k : ℕ) → total_at_key r key_of elem_of slots k ≡ total r (λ slot. shift_at r times key elem slot k) done
  pub few : length slots ≤ length done

module _ {E : Type 0} {r : SemiringOn E} (laws : IsSemiring r) {size unit : ℕ} {times : ℕ → ℕ → ℕ}
    (monoid : IsMonoid size unit times)
    (key : ℕ) (elem : E) (map : List (Slot E)) (key_in : key < size) (good : IsGood r elem)
    (fits : FitsSlots r 0 size map)
    (add_up : ReachesAddUp r (alone r key elem) (value_in r.zero map)) where
  pub shift-reach : (slot : Slot E) → IsIn slot map → r.reach elem + r.reach slot.elem ≤ weight_bound
  shift-reach slot slot_in =
      let left : alone r key elem key ≡ elem = ap (λ t. masked r t elem) (eq-eqb key key refl) in
      subst (λ e. r.reach elem + r.reach e ≤ weight_bound) (value_in-at_slot r 0 size map slot fits slot_in)
      (subst (λ e. r.reach e + r.reach (value_in r.zero map slot.key) ≤ weight_bound) left (add_up key slot.key))

  pub shift-key : (slot : Slot E) → IsIn slot map → times key slot.key < size
  shift-key slot slot_in = monoid.product_is_element key slot.key key_in (fits-keys r 0 size map fits slot slot_in)

  pub shift-good : (slot : Slot E) → IsIn slot map → IsGood r (r.mul elem slot.elem)
  shift-good slot slot_in =
      mul_is_good laws elem slot.elem good (fits-good r 0 size map fits slot slot_in) (shift-reach slot slot_in)

  shift-sound : (slot : Slot E) → IsIn slot map → (k : ℕ) → r.is_sound (shift_at r times key elem slot k)
  shift-sound slot slot_in k =
      (masked_is_good laws (nat_eq (times key slot.key) k) (r.mul elem slot.elem) (shift-good slot slot_in)).sound

  pub shifting-more : (i : ℕ) (slot product : Slot E) (before after : List (Slot E)) → i < length map
      → slot ≡ slice_index_or map i slot → product ≡ product_of r times key elem slot
      → IsShifting r size times key elem (take i map) before
      → IsPut r size before after (alone r product.key product.elem)
      → IsShifting r size times key elem (take (i + 1) map) after
  shifting-more i slot product before after within is made shifting put =
      let slot_in = IsIn-read map i slot within is in
      let split : take (i + 1) map ≡ take i map ++ slot ∷ [] = take_more map i slot within
      ∙ ap (λ s. take i map ++ s ∷ []) (sym is) in
      record {
        are_loose = put.are_loose;
        sums = λ k.
            let at = λ (s : Slot E). shift_at r times key elem s k in
            let so_far = total r at (take i map) in
            put.sums k
            ∙ ap (λ e. r.add e (alone r product.key product.elem k)) (shifting.sums k)
            ∙ ap (λ p. r.add so_far (alone r (key_of p) (elem_of p) k)) made
            ∙ ap (r.add so_far) (sym (laws.addition.monoid.right_identity (at slot) (shift-sound slot slot_in k)))
            ∙ sym (product_by-append laws.addition.monoid at (take i map) (slot ∷ [])
            (λ s s_in. shift-sound s (IsIn-take i map s s_in) k)
            (λ s s_in. elim s_in [
              | inl same ↦ subst (λ z. r.is_sound (at z)) (sym same) (shift-sound slot slot_in k)
              | inr none ↦ absurd none
            ]))
            ∙ ap (total r at) (sym split);
        few =
            let long = ap length split in
            let one_more = put.few in
            let so_far = shifting.few in
            let count = length-append (take i map) (slot ∷ []) in
            omega arith;
      }

  one_slot : Slot E
  one_slot = record { key = key; elem = elem }

  pub shifts-convolution : (k : ℕ) → total r (λ slot. shift_at r times key elem slot k) map
      ≡ convolution r size times (alone r key elem) (value_in r.zero map) k
  unfolding one_slot
  shifts-convolution k =
      let shifts = total r (λ slot. shift_at r times key elem slot k) map in
      let one = one_slot ∷ [] in
      let sound : AllElements r.is_sound elem_of map = good_are_sound laws elem_of map (fits-good r 0 size map fits) in
      sym (laws.addition.monoid.right_identity shifts
      (total-is_sound laws (λ slot. shift_at r times key elem slot k) map (λ slot slot_in. shift-sound slot slot_in k)))
      ∙ sym (convolution_of_totals laws size times key_of elem_of one key_of elem_of map k
      (λ s s_in. elim s_in [
        | inl same ↦ subst (λ z. r.is_sound (elem_of z)) (sym same) good.sound
        | inr none ↦ absurd
            none
      ])
      (λ s s_in. elim s_in [ inl same ↦ subst (λ z. key_of z < size) (sym same) key_in | inr none ↦ absurd none ])
      sound (fits-keys r 0 size map fits))
      ∙ convolution-same r size times (total_at_key r key_of elem_of one) (alone r key elem)
      (total_at_key r key_of elem_of map) (value_in r.zero map) k
      (λ j. laws.addition.monoid.right_identity (alone r key elem j)
      (masked_is_good laws (nat_eq key j) elem good).sound)
      (λ j. sym (value_in-total laws 0 size map j fits))

  pub shifting-all : (i : ℕ) (slots : List (Slot E)) → length map ≤ i
      → IsShifting r size times key elem (take i map) slots → (k : ℕ)
      → total_at_key r key_of elem_of slots k ≡ convolution r size times (alone r key elem) (value_in r.zero map) k
  shifting-all i slots past shifting k =
      shifting.sums k
      ∙ ap (total r (λ slot. shift_at r times key elem slot k)) (take_all i map past)
      ∙ shifts-convolution k
