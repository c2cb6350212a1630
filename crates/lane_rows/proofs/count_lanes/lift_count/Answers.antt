use Rattle.std.proofs.Common.{arith}
use Rattle.lane_rows.specs.CountLanes.{raised_count}
use Rattle.lane_rows.proofs.Zips.{zip2-more}
use Rattle.lane_rows.proofs.count_lanes.lift_count.Goals as goal

pub loop-i-preserved : goal.loop-i-preserved
loop-i-preserved c =
    zip2-more (raised_count c.args.by) c.loop-i.i c.args.into.now c.loop-i.into c.args.from.now 0 0 _
    c.requires.same_length (omega arith) c.loop-i.invariant
    (omega (arith, c.saturating_add.ensures, c.saturating_mul.ensures))
