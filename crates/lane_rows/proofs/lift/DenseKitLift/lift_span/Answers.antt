use Rattle.std.proofs.Common.{◌+◌, ◌-◌, ◌≤◌, [], length, take, drop, length-take, length-drop, arith}
use Rattle.semiring_kit.specs.Semiring.{weight_bound}
use Rattle.std.proofs.lemmas.List.Elements.{All-cons, All-nil, All-take, All-drop}
use Rattle.lane_rows.specs.Lanes.{IsGoodLane}
use Rattle.lane_rows.specs.Rows.{shown, span_at}
use Rattle.lane_rows.proofs.Lifts.{IsLifted-same, span-rising, span-folded, sum-good, sum-adds_up, last_below}
use Rattle.lane_rows.proofs.Lifts.{first_below}
use Rattle.lane_rows.proofs.lift.DenseKitLift.lift_span.Goals as goal

pub lift_run-requires-clause-in_row : goal.lift_run-requires-clause-in_row
lift_run-requires-clause-in_row g c =
    let below = last_below c.args.span (length c.args.row.now) c.requires.some c.if-span.true c.requires.in_row in
    let within = c.requires.in_from in
    simp (length-take, length-drop) (omega arith)

pub lift_run-requires-else-span-clause-in_row : goal.lift_run-requires-else-span-clause-in_row
lift_run-requires-else-span-clause-in_row g c =
    let below = first_below c.args.span (length c.args.row.now) c.requires.some c.if-span.false c.requires.in_row in
    omega arith

pub lift_run-requires-else-span-clause-from_is_good :
    goal.lift_run-requires-else-span-clause-from_is_good
lift_run-requires-else-span-clause-from_is_good g c =
    let kit = c.args.self.now.kit in
    let laws = g.met.S.Semiring.laws kit in
    let good = IsGoodLane (g.S.Semiring.ring kit) (g.S.Lanes.is_lane kit) (g.S.Lanes.shows kit) in
    let span = c.args.span in
    let len = span.from + span.len - span.from in
    let lanes = take len (drop span.from c.args.from.now) in
    All-cons good c.sum_of-sum.result []
    (sum-good laws (g.S.Lanes.is_lane kit) (g.S.Lanes.shows kit) lanes c.sum_of-sum.result
    (All-take good len (drop span.from c.args.from.now)
    (All-drop good span.from c.args.from.now c.requires.from_is_good))
    c.sum_of-sum.ensures.is_lane c.sum_of-sum.ensures.shows)
    (All-nil good)

pub lift_run-requires-else-span-clause-reaches_add_up :
    goal.lift_run-requires-else-span-clause-reaches_add_up
lift_run-requires-else-span-clause-reaches_add_up g c =
    let kit = c.args.self.now.kit in
    let ring = g.S.Semiring.ring kit in
    let shows = g.S.Lanes.shows kit in
    let good = IsGoodLane ring (g.S.Lanes.is_lane kit) shows in
    let add_up = λ (lane : g.row.S-Lane.Denot). ring.reach (shows c.args.by) + ring.reach (shows lane) ≤ weight_bound in
    let span = c.args.span in
    let len = span.from + span.len - span.from in
    sum-adds_up (g.met.S.Semiring.laws kit) (g.S.Lanes.is_lane kit) shows c.args.by
    (take len (drop span.from c.args.from.now)) c.sum_of-sum.result c.requires.by_is_good
    (All-take good len (drop span.from c.args.from.now)
    (All-drop good span.from c.args.from.now c.requires.from_is_good))
    (All-take add_up len (drop span.from c.args.from.now)
    (All-drop add_up span.from c.args.from.now c.requires.reaches_add_up))
    c.sum_of-sum.ensures.shows

pub returns-then-span : goal.returns-then-span
returns-then-span g c =
    let kit = c.args.self.now.kit in
    let ring = g.S.Semiring.ring kit in
    let shows = g.S.Lanes.shows kit in
    let span = c.args.span in
    let lanes = take (span.from + span.len - span.from) (drop span.from c.args.from.now) in
    let x = shows c.args.by in
    let within = c.requires.in_from in
    IsLifted-same (g.met.S.Semiring.laws kit) (g.S.Lanes.is_lane kit) shows c.args.row.now c.lift_run.new.row
    _ (span_at ring x span (shown ring shows c.args.from.now))
    (λ k. span-rising (g.met.S.Semiring.laws kit) (g.S.Lanes.is_lane kit) shows x span c.args.from.now
    (span.from + span.len - span.from) k
    (omega arith) (omega arith) c.if-span.true)
    c.lift_run.ensures

pub returns-else-span : goal.returns-else-span
returns-else-span g c =
    let kit = c.args.self.now.kit in
    let ring = g.S.Semiring.ring kit in
    let shows = g.S.Lanes.shows kit in
    let span = c.args.span in
    let x = shows c.args.by in
    let within = c.requires.in_from in
    IsLifted-same (g.met.S.Semiring.laws kit) (g.S.Lanes.is_lane kit) shows c.args.row.now c.lift_run-else-span.new.row
    _ (span_at ring x span (shown ring shows c.args.from.now))
    (λ k. span-folded (g.met.S.Semiring.laws kit) (g.S.Lanes.is_lane kit) shows x span c.args.from.now
    c.sum_of-sum.result
    (span.from + span.len - span.from) k (omega arith) (omega arith) c.if-span.false c.requires.by_is_good.good.sound
    c.requires.from_is_good c.sum_of-sum.ensures.shows)
    c.lift_run-else-span.ensures
