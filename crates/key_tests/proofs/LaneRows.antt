-- What small rows of weights reach.
use Rattle.std.proofs.Common.{◌≢◌, ◌≤◌, ℕ, zero, suc, ℤ, List, [], ◌∷◌, All, unsigned_abs}
use Rattle.std.proofs.Common.{inl, inr, ap, arith}
use Rattle.std.proofs.lemmas.List.Elements.{All-head, All-tail}
use Rattle.semiring_kit.specs.MaxPlus.{max_plus}
use Rattle.lane_rows.specs.MaxLanes.{absent, weight_of_lane}
use Rattle.lane_rows.specs.Rows.{shown}
use Rattle.lane_rows.proofs.MaxLanes.{cases_absent, weight-absent, weight-present}

abbrev pub IsSmall : ℤ → Type 0
IsSmall lane = lane ≢ absent → unsigned_abs lane ≤ 1000

lane-reach : (lane : ℤ) → IsSmall lane → max_plus.reach (weight_of_lane lane) ≤ 1000
lane-reach lane small = elim (cases_absent lane) [
  | inl none ↦ (let reach = ap max_plus.reach (weight-absent lane none) in omega arith)
  | inr present ↦
      (let reach = ap max_plus.reach (weight-present lane present) in let within = small present in omega arith)
]

pub small_row-reach : (row : List ℤ) (k : ℕ) → All IsSmall row
    → max_plus.reach (shown max_plus weight_of_lane row k) ≤ 1000
small_row-reach [] k small = omega arith
small_row-reach (x ∷ xs) zero small = lane-reach x (All-head IsSmall x xs small)
small_row-reach (x ∷ xs) (suc k) small = small_row-reach xs k (All-tail IsSmall x xs small)
