use Rattle.lane_rows.specs.Rows.{shown, IsLifted}
use Rattle.lane_rows.proofs.DenseRows.{keys_at}
use Rattle.lane_rows.proofs.dense_kit.DenseKitMapKit.convolve.Given as goal

-- the products of the left values so far were added
abbrev pub invariant-loop-key : goal.invariant-loop-key
invariant-loop-key g l =
    let ring = g.S.Semiring.ring l.self.kit in
    let shows = g.S.Lanes.shows l.self.kit in
    IsLifted ring (g.S.Lanes.is_lane l.self.kit) shows l.initial.row.items l.row.items
    (keys_at ring (g.M.Monoid.size l.self.keys) (g.M.Monoid.mul l.self.keys) (shown ring shows l.a.items)
    (shown ring shows l.b.items) l.key)
