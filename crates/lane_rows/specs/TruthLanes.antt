-- Lanes of truth values: 1 stands for true, and 0 for false.
use Rattle.std.specs.Prelude.{◌≤◌, ℕ, List, Bool, ◌||◌, nat_eq, if◌then◌else◌}
use Rattle.std.specs.List.{list_any}
use Rattle.std.specs.Simd.Lanes.{zip2}

abbrev pub IsBit : ℕ → Type 0
IsBit lane = lane ≤ 1

-- what a lane stands for
abbrev pub truth_of_lane : ℕ → Bool
truth_of_lane lane = nat_eq lane 1

-- the lane of a truth value
abbrev pub lane_of_truth : Bool → ℕ
lane_of_truth truth = if truth then 1 else 0

-- 1 where either lane is 1, and else 0
abbrev pub either : ℕ → ℕ → ℕ
either a b = lane_of_truth (truth_of_lane a || truth_of_lane b)

-- place by place
abbrev pub lifted_or : List ℕ → List ℕ → List ℕ
lifted_or into from = zip2 either into from

-- 1 where any lane is 1, and else 0
abbrev pub any : List ℕ → ℕ
any lanes = lane_of_truth (list_any truth_of_lane lanes)
