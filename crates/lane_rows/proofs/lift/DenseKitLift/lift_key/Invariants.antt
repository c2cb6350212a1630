use Rattle.std.proofs.Common.{drop}
use Rattle.lane_rows.specs.Rows.{shown}
use Rattle.lane_rows.proofs.Lifts.{IsLifting}
use Rattle.lane_rows.proofs.lift.DenseKitLift.lift_key.Given as goal

abbrev pub invariant-loop-span : goal.invariant-loop-span
invariant-loop-span g l =
    let ring = g.S.Semiring.ring l.self.kit in
    let shows = g.S.Lanes.shows l.self.kit in
    IsLifting ring (g.S.Lanes.is_lane l.self.kit) shows (shows l.by) (g.M.Monoid.mul l.self.keys l.key)
    (shown ring shows l.from) (g.M.Monoid.size l.self.keys) l.initial.row l.row (drop l.span-index l.span-items)
