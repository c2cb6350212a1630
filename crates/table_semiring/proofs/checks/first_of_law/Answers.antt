use Rattle.std.proofs.Common.{◌<◌, sym, subst, below_more, ◌∙◌, arith}
use Rattle.table_semiring.specs.TableOf.{plain_raw}
use Rattle.table_semiring.proofs.Lawful.{find-places_at, find-places_nowhere}
use Rattle.table_semiring.proofs.checks.first_of_law.Goals as goal

pub returns-in-Some : goal.returns-in-Some
returns-in-Some c =
    let below = subst (λ n. c.loop-a.a < n) c.choices-a-end.ensures.number c.loop-a-test.true in
    sym (find-places_at (plain_raw c.args.raw.now) c.args.law c.loop-a.a c.in-Some.b c.in-Some.c
    below c.loop-a.invariant (sym c.in-Some.ensures))

pub loop-a-preserved : goal.loop-a-preserved
loop-a-preserved c = below_more _ _ c.loop-a.invariant (sym c.further_elements.ensures ∙ c.in_default.is)

pub returns : goal.returns
returns c =
    let number = c.choices-a-end.ensures.number in
    sym (find-places_nowhere (plain_raw c.args.raw.now) c.args.law (λ k below. c.loop-a.invariant k (omega arith)))
