use Rattle.std.proofs.Common.{true, false, [], ◌∷◌, sym, ◌∙◌, arith}
use Rattle.monoid_kit.specs.FirstBad.{unit_fails}
use Rattle.monoid_kit.specs.TableOf.{plain_raw}
use Rattle.monoid_kit.proofs.Finds.{find-range_pairs_at, find-range_pairs_nowhere}
use Rattle.monoid_kit.proofs.Tables.{find-unit_fails_left, find-unit_fails_right}
use Rattle.monoid_kit.proofs.checks.unit_failure.Goals as goal

pub returns-then-product-x : goal.returns-then-product-x
returns-then-product-x c =
    let t = plain_raw c.args.table.now in
    sym (find-range_pairs_at (λ p. unit_fails t p.0 p.1) t.size (true ∷ false ∷ [])
    c.loop-x.x true c.loop-x-test.true c.loop-x.invariant
    (find-unit_fails_left t c.loop-x.x (λ same. c.if-product-x.true (c.product.ensures ∙ same))))

pub returns-then-product-x-2 : goal.returns-then-product-x-2
returns-then-product-x-2 c =
    let t = plain_raw c.args.table.now in
    sym (find-range_pairs_at (λ p. unit_fails t p.0 p.1) t.size (true ∷ false ∷ [])
    c.loop-x.x false c.loop-x-test.true c.loop-x.invariant
    (find-unit_fails_right t c.loop-x.x (sym c.product.ensures ∙ c.if-product-x.false)
    (λ same. c.if-product-x-2.true (c.product-in-loop-x.ensures ∙ same))))

pub returns : goal.returns
returns c =
    let t = plain_raw c.args.table.now in
    sym (find-range_pairs_nowhere (λ p. unit_fails t p.0 p.1) t.size (true ∷ false ∷ [])
    (λ k below. c.loop-x.invariant k (omega arith)))
