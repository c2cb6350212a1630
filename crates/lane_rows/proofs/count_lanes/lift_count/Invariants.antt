use Rattle.std.proofs.Common.{◌≡◌, ◌++◌, take, drop}
use Rattle.lane_rows.specs.CountLanes.{lifted_count}
use Rattle.lane_rows.proofs.count_lanes.lift_count.Given as goal

abbrev pub invariant-loop-i : goal.invariant-loop-i
invariant-loop-i l =
    l.into ≡ lifted_count l.by (take l.i l.initial.into) (take l.i l.from) ++ drop l.i l.initial.into
