use Rattle.std.proofs.Common.{sym, below_more, ◌∙◌, arith}
use Rattle.monoid_kit.specs.FirstBad.{is_not_associative}
use Rattle.monoid_kit.specs.TableOf.{plain_raw}
use Rattle.monoid_kit.proofs.Finds.{find-range_at, find-range_nowhere}
use Rattle.monoid_kit.proofs.Tables.{is_not_associative-rows}
use Rattle.monoid_kit.proofs.checks.last_factor.Goals as goal

pub returns-then-are_unlike : goal.returns-then-are_unlike
returns-then-are_unlike c =
    let t = plain_raw c.args.table.now in
    sym (find-range_at (is_not_associative t c.args.a c.args.b) t.size
    c.loop-c.c c.loop-c-test.true c.loop-c.invariant
    (is_not_associative-rows t c.args.a c.args.b c.requires.right_is_element
    c.row-by_a.result.now c.row-by_b.result.now c.row-by_ab.result.now
    c.row-by_a.ensures.products c.row-by_b.ensures.products c.row-by_ab.ensures.products
    c.row-by_b.ensures.are_elements c.loop-c.c c.loop-c-test.true
    ∙ sym c.are_unlike.ensures ∙ c.if-are_unlike.true))

pub loop-c-preserved : goal.loop-c-preserved
loop-c-preserved c =
    let t = plain_raw c.args.table.now in
    below_more _ _ c.loop-c.invariant
    (is_not_associative-rows t c.args.a c.args.b c.requires.right_is_element
    c.row-by_a.result.now c.row-by_b.result.now c.row-by_ab.result.now
    c.row-by_a.ensures.products c.row-by_b.ensures.products c.row-by_ab.ensures.products
    c.row-by_b.ensures.are_elements c.loop-c.c c.loop-c-test.true
    ∙ sym c.are_unlike.ensures ∙ c.if-are_unlike.false)

pub returns : goal.returns
returns c =
    let t = plain_raw c.args.table.now in
    sym (find-range_nowhere (is_not_associative t c.args.a c.args.b) t.size
    (λ k below. c.loop-c.invariant k (omega arith)))
