use Rattle.std.proofs.Common.{◌≡◌, ◌++◌, take, drop}
use Rattle.lane_rows.specs.MaxLanes.{lifted_max}
use Rattle.lane_rows.proofs.max_lanes.lift_max.Given as goal

abbrev pub invariant-loop-i : goal.invariant-loop-i
invariant-loop-i l =
    l.into ≡ lifted_max l.weight (take l.i l.initial.into) (take l.i l.from) ++ drop l.i l.initial.into
