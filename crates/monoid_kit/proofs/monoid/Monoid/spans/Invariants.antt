use Rattle.monoid_kit.specs.Spans.{AreSpans}
use Rattle.monoid_kit.proofs.monoid.Monoid.spans.Given as goal

-- the spans so far are of the elements so far
abbrev pub invariant-loop-from : goal.invariant-loop-from
invariant-loop-from g l = AreSpans l.from (g.Self.Monoid.mul l.self l.a) 0 l.spans.items
