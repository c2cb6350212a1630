use Rattle.std.proofs.Common.{◌<◌, sym, subst, below_more, ◌∙◌, not, arith}
use Rattle.std.specs.List.{range_with_len}
use Rattle.monoid_kit.proofs.Finds.{find-range_pairs_at, find-range_pairs_nowhere}
use Rattle.table_semiring.specs.FirstBreak.{choices, law_holds}
use Rattle.table_semiring.specs.TableOf.{plain_raw}
use Rattle.table_semiring.proofs.checks.further_elements.Goals as goal

pub returns-in-Some : goal.returns-in-Some
returns-in-Some c =
    let t = plain_raw c.args.raw.now in
    let below = subst (λ n. c.loop-b.b < n) c.choices-b-end.ensures.number c.loop-b-test.true in
    sym (find-range_pairs_at (λ p. not (law_holds t c.args.law c.args.a p.0 p.1)) (choices t c.args.law 1)
    (range_with_len 0 (choices t c.args.law 2)) c.loop-b.b c.in-Some.c below c.loop-b.invariant (sym c.in-Some.ensures))

pub loop-b-preserved : goal.loop-b-preserved
loop-b-preserved c = below_more _ _ c.loop-b.invariant (sym c.last_element.ensures ∙ c.in_default.is)

pub returns : goal.returns
returns c =
    let t = plain_raw c.args.raw.now in
    let number = c.choices-b-end.ensures.number in
    sym (find-range_pairs_nowhere (λ p. not (law_holds t c.args.law c.args.a p.0 p.1)) (choices t c.args.law 1)
    (range_with_len 0 (choices t c.args.law 2)) (λ k below. c.loop-b.invariant k (omega arith)))
