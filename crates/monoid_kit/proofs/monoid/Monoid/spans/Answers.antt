use Rattle.std.proofs.Common.{◌≡◌, ◌+◌, refl, arith, subst, sym}
use Rattle.monoid_kit.specs.Spans.{AreSpans}
use Rattle.monoid_kit.proofs.Spans.{AreSpans-push, alone-IsSpan}
use Rattle.monoid_kit.proofs.monoid.Monoid.spans.Goals as goal

pub loop-from-init : goal.loop-from-init
loop-from-init g c =
    let size = g.Self.Monoid.size c.args.self.now in
    let move = g.Self.Monoid.mul c.args.self.now c.args.a in
    subst (AreSpans 0 move 0) (sym c.in_ok-spans.ensures.items) refl

pub loop-from-preserved : goal.loop-from-preserved
loop-from-preserved g c =
    let move = g.Self.Monoid.mul c.args.self.now c.args.a in
    let from = c.loop-from.from in
    rw c.in_ok-push.ensures.items
    (AreSpans-push move 0 from (from + 1) c.loop-from.spans.items _ c.loop-from.invariant
    (alone-IsSpan move from _ refl c.mul-to.ensures refl refl) refl)

pub returns : goal.returns
returns g c =
    let size = g.Self.Monoid.size c.args.self.now in
    let move = g.Self.Monoid.mul c.args.self.now c.args.a in
    let end : c.loop-from.from ≡ size = omega arith in
    subst (λ n. AreSpans n move 0 c.loop-from.spans.items) end c.loop-from.invariant
