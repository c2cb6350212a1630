use Rattle.std.proofs.Common.{arith}
use Rattle.lane_rows.proofs.Lifts.{run-IsLifted}
use Rattle.lane_rows.proofs.lift.DenseKitLift.lift_run.Goals as goal

pub returns : goal.returns
returns g c =
    let kit = c.args.self.now.kit in
    run-IsLifted (g.met.S.Semiring.laws kit) (g.S.Lanes.is_lane kit) (g.S.Lanes.shows kit) c.args.by
    c.requires.by_is_good
    c.args.row.now c.args.from.now c.lift.new.into c.args.to _ c.requires.in_row (omega arith)
    c.requires.row_is_good c.requires.from_is_good c.requires.reaches_add_up c.lift.ensures.are_lanes
    c.lift.ensures.values
