use Rattle.std.proofs.Common.{◌≡◌, ◌++◌, take, drop}
use Rattle.lane_rows.specs.TruthLanes.{lifted_or}
use Rattle.lane_rows.proofs.truth_lanes.lift_or.Given as goal

abbrev pub invariant-loop-i : goal.invariant-loop-i
invariant-loop-i l =
    l.into ≡ lifted_or (take l.i l.initial.into) (take l.i l.from) ++ drop l.i l.initial.into
