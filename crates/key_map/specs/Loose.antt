-- Slots in any order, several of them at one key perhaps, which stand for their sums by key.
use Rattle.std.specs.Prelude.{◌≡◌, ℕ, ◌+◌, ◌<◌, ◌≤◌, List, length}
use Rattle.monoid_kit.specs.Items.{AllElements}
use Rattle.semiring_kit.specs.Semiring.{SemiringOn, IsGood}
use Rattle.semiring_kit.specs.Total.{total_at_key}
use Rattle.key_map.specs.declared.slot.Slot.{Slot}
use Rattle.key_map.specs.Slots.{key_of, elem_of}

-- the keys are below the size, and the values are good
pub record AreLoose {E : Type 0} (r : SemiringOn E) (size : ℕ) (slots : List (Slot E)) : Type 0 where
  pub keys : AllElements (λ key. key < size) key_of slots
  pub elems : AllElements (IsGood r) elem_of slots

-- the new slots have at each key the sum of what the old ones have and of what is added there, and are one more at most
pub record IsPut {E : Type 0} (r : SemiringOn E) (size : ℕ) (old new : List (Slot E)) (added : ℕ → E) : Type 0 where
  pub are_loose : AreLoose r size new
  pub sums : (k : ℕ) → total_at_key r key_of elem_of new k ≡ r.add (total_at_key r key_of elem_of old k) (added k)
  pub few : length new ≤ length old + 1
