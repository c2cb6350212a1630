use Rattle.std.proofs.Common.{◌≡◌, take}
use Rattle.lane_rows.specs.MaxLanes.{greatest}
use Rattle.lane_rows.proofs.max_lanes.greatest.Given as goal

abbrev pub invariant-loop-lane : goal.invariant-loop-lane
invariant-loop-lane l = l.greatest ≡ greatest (take l.lane-index l.lanes)
