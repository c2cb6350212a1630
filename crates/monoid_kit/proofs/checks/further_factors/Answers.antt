use Rattle.std.proofs.Common.{sym, arith}
use Rattle.monoid_kit.specs.FirstBad.{elements, is_not_associative}
use Rattle.monoid_kit.specs.TableOf.{plain_raw}
use Rattle.monoid_kit.proofs.Finds.{find-range_pairs_at, find-range_pairs_nowhere}
use Rattle.monoid_kit.proofs.checks.further_factors.Goals as goal

pub returns-in-Some : goal.returns-in-Some
returns-in-Some c =
    let t = plain_raw c.args.table.now in
    sym (find-range_pairs_at (λ p. is_not_associative t c.args.a p.0 p.1) t.size (elements t)
    c.loop-b.b c.in-Some.c c.loop-b-test.true c.loop-b.invariant (sym c.in-Some.ensures))

pub returns : goal.returns
returns c =
    let t = plain_raw c.args.table.now in
    sym (find-range_pairs_nowhere (λ p. is_not_associative t c.args.a p.0 p.1) t.size (elements t)
    (λ k below. c.loop-b.invariant k (omega arith)))
