use Rattle.std.proofs.Common.{◌<◌, sym, subst, below_more, ◌∙◌, ap, not, arith}
use Rattle.monoid_kit.proofs.Finds.{find-range_at, find-range_nowhere}
use Rattle.table_semiring.specs.FirstBreak.{choices, law_holds}
use Rattle.table_semiring.specs.TableOf.{plain_raw}
use Rattle.table_semiring.proofs.checks.last_element.Goals as goal

pub returns-then-not-holds : goal.returns-then-not-holds
returns-then-not-holds c =
    let t = plain_raw c.args.raw.now in
    let below = subst (λ n. c.loop-c.c < n) c.choices-c-end.ensures.number c.loop-c-test.true in
    sym (find-range_at (λ k. not (law_holds t c.args.law c.args.a c.args.b k)) (choices t c.args.law 2)
    c.loop-c.c below c.loop-c.invariant (ap not (sym c.holds.ensures ∙ c.if-not-holds.true)))

pub loop-c-preserved : goal.loop-c-preserved
loop-c-preserved c = below_more _ _ c.loop-c.invariant (ap not (sym c.holds.ensures ∙ c.if-not-holds.false))

pub returns : goal.returns
returns c =
    let t = plain_raw c.args.raw.now in
    let number = c.choices-c-end.ensures.number in
    sym (find-range_nowhere (λ k. not (law_holds t c.args.law c.args.a c.args.b k)) (choices t c.args.law 2)
    (λ k below. c.loop-c.invariant k (omega arith)))
