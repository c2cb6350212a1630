use Rattle.lane_rows.proofs.CountLanes.{lifted-counts}
use Rattle.lane_rows.proofs.count_lanes.CountLanes.lift.Goals as goal

pub returns-clause-values : goal.returns-clause-values
returns-clause-values c =
    lifted-counts c.args.by c.args.into.now c.args.from.now c.lift_count.new.into c.lift_count.ensures
