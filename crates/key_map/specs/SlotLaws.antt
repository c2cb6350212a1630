-- What holds of each list of slots that fits.
use Rattle.std.specs.Prelude.{ℕ, ◌+◌, ◌-◌, ◌<◌, ◌≤◌, Bool, true, false, List, [], ◌∷◌, length, nat_eq, if◌then◌else◌}
use Rattle.std.proofs.Common.{arith}
use Rattle.semiring_kit.specs.Semiring.{SemiringOn, IsSemiring, IsGood}
use Rattle.semiring_kit.proofs.Sums.{zero_is_good}
use Rattle.key_map.specs.declared.slot.Slot.{Slot}
use Rattle.key_map.specs.Slots.{value_in, FitsSlots}

module _ {E : Type 0} {r : SemiringOn E} (laws : IsSemiring r) where
  if_is_good : (test : Bool) (a b : E) → IsGood r a → IsGood r b → IsGood r (if test then a else b)
  if_is_good true a b a_good b_good = a_good
  if_is_good false a b a_good b_good = b_good

  pub value_in_is_good : (low high : ℕ) (slots : List (Slot E)) (k : ℕ) → FitsSlots r low high slots
      → IsGood r (value_in r.zero slots k)
  value_in_is_good low high [] k fits = zero_is_good laws
  value_in_is_good low high (slot ∷ slots) k fits =
      if_is_good (nat_eq slot.key k) slot.elem (value_in r.zero slots k) fits.2.0
      (value_in_is_good (slot.key + 1) high slots k fits.2.1)

module _ {E : Type 0} (r : SemiringOn E) where
  pub few_slots : (low high : ℕ) (slots : List (Slot E)) → low ≤ high → FitsSlots r low high slots
      → length slots ≤ high - low
  few_slots low high [] ordered fits = omega arith
  few_slots low high (slot ∷ slots) ordered fits =
      let above : low ≤ slot.key = fits.0 in
      let below : slot.key < high = fits.1 in
      let rest : length slots ≤ high - (slot.key + 1) = few_slots (slot.key + 1) high slots (omega arith) fits.2.1 in
      omega arith

  -- slots whose keys are below the size are no more than the size
  pub few_slots_kept : (size : ℕ) (slots : List (Slot E)) → FitsSlots r 0 size slots → length slots ≤ size
  few_slots_kept size slots fits =
      let few : length slots ≤ size - 0 = few_slots 0 size slots (omega arith) fits in omega arith
