use Rattle.std.proofs.Common.{◌+◌, drop, false, get_or, subst, sym, arith}
use Rattle.std.proofs.Math.ListN.{drop_of_length-le}
use Rattle.std.proofs.lemmas.List.{drop_more}
use Rattle.monoid_kit.specs.declared.span.Span.{Span}
use Rattle.monoid_kit.specs.Spans.{AreSpans}
use Rattle.lane_rows.specs.Rows.{shown}
use Rattle.lane_rows.proofs.Lifts.{next_span, lifting-start, lifting-more, lifting-end, shown-is_sound}
use Rattle.lane_rows.proofs.lift.DenseKitLift.lift_key.Goals as goal

abbrev none : Span
none = record { from = 0; to = 0; len = 0; rises = false }

pub loop-span-init : goal.loop-span-init
loop-span-init g c =
    let kit = c.args.self.now.kit in
    let keys = c.args.self.now.keys in
    let ring = g.S.Semiring.ring kit in
    let laws = g.met.S.Semiring.laws kit in
    let shows = g.S.Lanes.shows kit in
    lifting-start laws (g.S.Lanes.is_lane kit) shows (shows c.args.by) c.requires.by_is_good.good.sound
    (g.M.Monoid.mul keys c.args.key)
    (shown ring shows c.args.from.now)
    (λ k. shown-is_sound laws (g.S.Lanes.is_lane kit) shows c.args.from.now k c.requires.from_fits.are_good)
    (g.M.Monoid.size keys) c.args.row.now c.deref-span-items.result.now c.requires.row_fits.are_good
    (subst (AreSpans (g.M.Monoid.size keys) (g.M.Monoid.mul keys c.args.key) 0) (sym c.deref-span-items.ensures.value)
    c.in_ok-spans.ensures)

pub lift_span-requires : goal.lift_span-requires
lift_span-requires g c =
    let keys = c.args.self.now.keys in
    let items = c.deref-span-items.result.now in
    let i = c.loop-span.span-index in
    let next = next_span (g.M.Monoid.mul keys c.args.key) (g.M.Monoid.size keys) c.loop-span.invariant.low
    (get_or items i none)
    (drop i items) (drop (i + 1) items)
    (λ k below. (g.met.M.Monoid.laws keys).product_is_element c.args.key k c.requires.is_element below)
    (drop_more items i none c.loop-span-test.true) c.loop-span.invariant.left in
    let row_size = c.requires.row_fits.has_size in
    let from_size = c.requires.from_fits.has_size in
    let same = c.loop-span.invariant.lifted.same_length in
    record {
      some = next.some;
      in_from = let within = next.within in omega arith;
      in_row = λ j below. (let inside = next.moves j below in omega arith);
      row_is_good = c.loop-span.invariant.lifted.are_good;
      from_is_good = c.requires.from_fits.are_good;
      by_is_good = c.requires.by_is_good;
      reaches_add_up = c.requires.reaches_add_up;
    }

pub loop-span-preserved : goal.loop-span-preserved
loop-span-preserved g c =
    let kit = c.args.self.now.kit in
    let keys = c.args.self.now.keys in
    let ring = g.S.Semiring.ring kit in
    let laws = g.met.S.Semiring.laws kit in
    let shows = g.S.Lanes.shows kit in
    let items = c.deref-span-items.result.now in
    let i = c.loop-span.span-index in
    lifting-more laws (g.S.Lanes.is_lane kit) shows (shows c.args.by) c.requires.by_is_good.good.sound
    (g.M.Monoid.mul keys c.args.key)
    (shown ring shows c.args.from.now)
    (λ k. shown-is_sound laws (g.S.Lanes.is_lane kit) shows c.args.from.now k c.requires.from_fits.are_good)
    (g.M.Monoid.size keys) c.args.row.now c.loop-span.row c.lift_span.new.row (get_or items i none) (drop i items)
    (drop (i + 1) items)
    c.requires.row_fits.are_good (drop_more items i none c.loop-span-test.true) c.loop-span.invariant
    c.lift_span.ensures

pub returns : goal.returns
returns g c =
    let kit = c.args.self.now.kit in
    let keys = c.args.self.now.keys in
    let ring = g.S.Semiring.ring kit in
    let laws = g.met.S.Semiring.laws kit in
    let shows = g.S.Lanes.shows kit in
    let items = c.deref-span-items.result.now in
    let i = c.loop-span.span-index in
    lifting-end laws (g.S.Lanes.is_lane kit) shows (shows c.args.by) c.requires.by_is_good.good.sound
    (g.M.Monoid.mul keys c.args.key)
    (shown ring shows c.args.from.now)
    (λ k. shown-is_sound laws (g.S.Lanes.is_lane kit) shows c.args.from.now k c.requires.from_fits.are_good)
    (g.M.Monoid.size keys) c.args.row.now c.loop-span.row (drop i items)
    (drop_of_length-le items c.loop-span-test.false) c.loop-span.invariant
