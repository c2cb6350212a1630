use Rattle.std.proofs.Common.{rules}
use Rattle.lane_rows.proofs.MaxLanes.{raised-machine}
use Rattle.lane_rows.proofs.max_lanes.raised.Goals as goal

pub returns-else-b-eq-ABSENT : goal.returns-else-b-eq-ABSENT
returns-else-b-eq-ABSENT c =
    raised-machine c.args.weight c.args.a c.args.b c.max.result c.ranges.weight c.ranges.a c.ranges.b (search rules)
    c.if-b-eq-ABSENT.false c.requires.lane_is_within c.requires.weight_is_within c.max.ensures.value
