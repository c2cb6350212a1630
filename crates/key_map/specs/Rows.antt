-- Rows of places, one for each key, in which values are gathered before they are kept.
use Rattle.std.specs.Prelude.{◌≡◌, ℕ, ◌+◌, List, [], ◌∷◌, length, slice_index_or, Option, Some, None}
use Rattle.semiring_kit.specs.Semiring.{SemiringOn, IsGood}
use Rattle.key_map.specs.declared.slot.Slot.{Slot}

-- the value in a place, and zero where it is empty
abbrev pub value_of : {E : Type 0} → E → Option E → E
value_of zero None = zero
value_of zero (Some value) = value

-- the value that a row holds at key k
abbrev pub value_in_row : {E : Type 0} → E → List (Option E) → ℕ → E
value_in_row zero row k = value_of zero (slice_index_or row k None)

-- the place is empty, or its value is good
abbrev pub IsGoodPlace : {E : Type 0} → SemiringOn E → Option E → Type 0
IsGoodPlace r None = Unit {0}
IsGoodPlace r (Some value) = IsGood r value

-- every place of the row is so
abbrev pub IsGoodRow : {E : Type 0} → SemiringOn E → List (Option E) → Type 0
IsGoodRow r row = (k : ℕ) → IsGoodPlace r (slice_index_or row k None)

-- the new row holds at each key the sum of the old value and what is added there
pub record IsGathered {E : Type 0} (r : SemiringOn E) (old new : List (Option E)) (added : ℕ → E) : Type 0 where
  pub same_length : length new ≡ length old
  pub values_are_good : IsGoodRow r new
  pub values : (k : ℕ) → value_in_row r.zero new k ≡ r.add (value_in_row r.zero old k) (added k)

-- the values of a row, each with its place as its key, the first place being low
abbrev pub slots_from : {E : Type 0} → ℕ → List (Option E) → List (Slot E)
slots_from low [] = []
slots_from low (None ∷ row) = slots_from (low + 1) row
slots_from low (Some value ∷ row) = record { key = low; elem = value } ∷ slots_from (low + 1) row
