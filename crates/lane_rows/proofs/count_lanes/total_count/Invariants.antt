use Rattle.std.proofs.Common.{◌≡◌, take}
use Rattle.lane_rows.specs.CountLanes.{total_count}
use Rattle.lane_rows.proofs.count_lanes.total_count.Given as goal

abbrev pub invariant-loop-count : goal.invariant-loop-count
invariant-loop-count l = l.total ≡ total_count (take l.count-index l.counts)
