-- Sums of two lists of slots: the slot with the least key of both, and what is left of a list after it.
use Rattle.std.specs.Prelude.{ℕ, List, [], ◌∷◌, nat_eq, nat_lt, Option, Some, None, if◌then◌else◌}
use Rattle.semiring_kit.specs.Semiring.{SemiringOn}
use Rattle.key_map.specs.declared.slot.Slot.{Slot}
use Rattle.key_map.specs.declared.merge.Source.{Source}
use Rattle.key_map.specs.declared.merge.Source.TheVariants.{Left, Right, Both}

-- of two slots the one with the lesser key, or, at one key, the slot with the sum
abbrev pub lesser_slot : {E : Type 0} → SemiringOn E → Slot E → Slot E → Slot E
lesser_slot r x y =
    if nat_lt x.key y.key then x else
    (if nat_lt y.key x.key then y else record { key = x.key; elem = r.add x.elem y.elem })

-- the slot with the least key of both lists, whose keys ascend
abbrev pub least_slot : {E : Type 0} → SemiringOn E → List (Slot E) → List (Slot E) → Option (Slot E)
least_slot r [] [] = None
least_slot r [] (y ∷ ys) = Some y
least_slot r (x ∷ xs) [] = Some x
least_slot r (x ∷ xs) (y ∷ ys) = Some (lesser_slot r x y)

-- the slots without the first one, where that has the key
abbrev pub after_key : {E : Type 0} → ℕ → List (Slot E) → List (Slot E)
after_key key [] = []
after_key key (slot ∷ slots) = if nat_eq slot.key key then slots else slot ∷ slots

-- of the first slots of two lists, whose keys ascend, the one with the lesser key comes next, or both at one key
abbrev pub source_of : {E : Type 0} → Option (Slot E) → Option (Slot E) → Source
source_of None None = Left
source_of None (Some y) = Right
source_of (Some x) None = Left
source_of (Some x) (Some y) = if nat_lt y.key x.key then Right else (if nat_eq x.key y.key then Both else Left)
