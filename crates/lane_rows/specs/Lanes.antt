-- Lanes, each of which shows an element of a semiring.
use Rattle.std.specs.Prelude.{◌≤◌, ◌+◌, List, All}
use Rattle.semiring_kit.specs.Semiring.{SemiringOn, IsGood, weight_bound}

-- a lane that is sound, and shows a good element
pub record IsGoodLane {E L : Type 0} (r : SemiringOn E) (is_lane : L → Type 0) (shows : L → E) (lane : L) : Type 0 where
  pub sound : is_lane lane
  pub good : IsGood r (shows lane)

-- what the lane `by` shows and what each of the lanes shows reach, together, no further than the bound
abbrev pub LanesAddUp : {E L : Type 0} → SemiringOn E → (L → E) → L → List L → Type 0
LanesAddUp r shows by lanes = All (λ lane. r.reach (shows by) + r.reach (shows lane) ≤ weight_bound) lanes

-- the sum of an element and of the product of a factor with another
abbrev pub add_times : {E : Type 0} → SemiringOn E → E → E → E → E
add_times r factor a b = r.add a (r.mul factor b)
