-- Lanes of weights: the least number stands for no weight, and each other number for itself.
use Rattle.std.specs.Prelude.{◌≢◌, ◌≤◌, ℤ, negsuc, ◌+ℤ◌, unsigned_abs, List, Option, Some, None, option_map, neg_ℤ}
use Rattle.std.specs.Prelude.{if◌then◌else◌}
use Rattle.std.specs.Int.{int_max}
use Rattle.std.specs.List.{fold}
use Rattle.std.specs.Ordering.{int_eq}
use Rattle.std.specs.Simd.Lanes.{zip2}
use Rattle.semiring_kit.specs.Semiring.{weight_bound}

-- the lane of no weight: -9223372036854775808
abbrev pub absent : ℤ
absent = negsuc 9223372036854775807

-- the weight that the lane stands for, or none
abbrev pub weight_of_lane : ℤ → Option ℤ
weight_of_lane lane = if int_eq lane absent then None else Some lane

-- the same where lanes have the sign turned
abbrev pub opposite_of_lane : ℤ → Option ℤ
opposite_of_lane lane = option_map neg_ℤ (weight_of_lane lane)

-- where the lane has a weight, it is within the bound
abbrev pub IsWithin : ℤ → Type 0
IsWithin lane = lane ≢ absent → unsigned_abs lane ≤ weight_bound

-- lane a, or the sum of lane b and the weight where b has a value and the sum is greater
abbrev pub raised : ℤ → ℤ → ℤ → ℤ
raised weight a b = if int_eq b absent then a else int_max a (b +ℤ weight)

-- place by place
abbrev pub lifted_max : ℤ → List ℤ → List ℤ → List ℤ
lifted_max weight into from = zip2 (raised weight) into from

-- the greatest lane; it is absent where no lane has a weight
abbrev pub greatest : List ℤ → ℤ
greatest lanes = fold int_max absent lanes
