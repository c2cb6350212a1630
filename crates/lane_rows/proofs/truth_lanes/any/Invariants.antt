use Rattle.std.proofs.Common.{◌≡◌, take}
use Rattle.lane_rows.specs.TruthLanes.{any}
use Rattle.lane_rows.proofs.truth_lanes.any.Given as goal

abbrev pub invariant-loop-lane : goal.invariant-loop-lane
invariant-loop-lane l = l.any ≡ any (take l.lane-index l.lanes)
