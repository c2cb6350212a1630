-- Slots, each a key with its value, and what a list of them stands for.
use Rattle.std.specs.Prelude.{ℕ, ◌+◌, ◌<◌, ◌≤◌, List, [], ◌∷◌, length, slice_index_or, nat_eq, if◌then◌else◌}
use Rattle.semiring_kit.specs.Semiring.{SemiringOn, IsGood}
use Rattle.semiring_kit.specs.Total.{masked, total}
use Rattle.key_map.specs.declared.slot.Slot.{Slot}

-- the parts of a slot
abbrev pub key_of : {E : Type 0} → Slot E → ℕ
key_of slot = slot.key

abbrev pub elem_of : {E : Type 0} → Slot E → E
elem_of slot = slot.elem

-- the product of a key with its value and of a slot, in this order
abbrev pub product_of : {E : Type 0} → SemiringOn E → (ℕ → ℕ → ℕ) → ℕ → E → Slot E → Slot E
product_of r times key elem right = record { key = times key right.key; elem = r.mul elem right.elem }

-- what the product of two slots, in this order, has at key k
abbrev pub product_at : {E : Type 0} → SemiringOn E → (ℕ → ℕ → ℕ) → Slot E → Slot E → ℕ → E
product_at r times left right k = masked r (nat_eq (times left.key right.key) k) (r.mul left.elem right.elem)

-- what the products of a slot with each of the right slots have at key k together
abbrev pub products_at : {E : Type 0} → SemiringOn E → (ℕ → ℕ → ℕ) → Slot E → List (Slot E) → ℕ → E
products_at r times left right k = total r (λ slot. product_at r times left slot k) right

-- the value at key k: that of the slot with this key, and zero where there is none
abbrev pub value_in : {E : Type 0} → E → List (Slot E) → ℕ → E
value_in zero [] k = zero
value_in zero (slot ∷ slots) k = if nat_eq slot.key k then slot.elem else value_in zero slots k

-- the keys ascend strictly, from low on and below high, and the values are good
abbrev pub FitsSlots : {E : Type 0} → SemiringOn E → ℕ → ℕ → List (Slot E) → Type 0
FitsSlots r low high [] = Unit {0}
FitsSlots r low high (slot ∷ slots) =
    (low ≤ slot.key) × (slot.key < high) × (IsGood r slot.elem × FitsSlots r (slot.key + 1) high slots)

-- each key is below those after it
abbrev pub KeysAscend : {E : Type 0} → List (Slot E) → Type 0
KeysAscend {E} slots = (i j : ℕ) (default : Slot E) → i < j → j < length slots
    → key_of (slice_index_or slots i default) < key_of (slice_index_or slots j default)
