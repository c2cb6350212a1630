use Rattle.std.proofs.Common.{◌∙◌}
use Rattle.lane_rows.proofs.CountLanes.{total-counts}
use Rattle.lane_rows.proofs.count_lanes.CountLanes.sum_of.Goals as goal

pub returns-clause-shows : goal.returns-clause-shows
returns-clause-shows c = c.total_count.ensures ∙ total-counts c.args.lanes.now
