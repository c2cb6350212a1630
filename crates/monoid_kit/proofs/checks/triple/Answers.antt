use Rattle.std.proofs.Common.{sym, below_more, ◌∙◌, arith}
use Rattle.monoid_kit.specs.FirstBad.{elements, is_not_associative}
use Rattle.monoid_kit.specs.Items.{pairs}
use Rattle.monoid_kit.specs.TableOf.{plain_raw}
use Rattle.monoid_kit.proofs.Finds.{find-range_pairs_at, find-range_pairs_nowhere}
use Rattle.monoid_kit.proofs.checks.triple.Goals as goal

pub returns-in-Some : goal.returns-in-Some
returns-in-Some c =
    let t = plain_raw c.args.table.now in
    sym (find-range_pairs_at (λ p. is_not_associative t p.0 p.1.0 p.1.1) t.size (pairs (elements t) (elements t))
    c.loop-a.a c.in-Some.factors c.loop-a-test.true c.loop-a.invariant (sym c.in-Some.ensures))

pub loop-a-preserved : goal.loop-a-preserved
loop-a-preserved c = below_more _ _ c.loop-a.invariant (sym c.further_factors.ensures ∙ c.in_default.is)

pub returns : goal.returns
returns c =
    let t = plain_raw c.args.table.now in
    sym (find-range_pairs_nowhere (λ p. is_not_associative t p.0 p.1.0 p.1.1) t.size (pairs (elements t) (elements t))
    (λ k below. c.loop-a.invariant k (omega arith)))
