use Rattle.std.proofs.Common.{arith}
use Rattle.monoid_product.proofs.Suffixes.{RestAfter-more, later-item_some, digit-here, same_place}
use Rattle.monoid_product.proofs.keys.digit_of.Goals as goal

pub loop-k-preserved : goal.loop-k-preserved
loop-k-preserved c =
    RestAfter-more c.args.parts.now c.loop-k.k c.index-parts-k.result (omega arith) c.index-parts-k.is
    c.args.place c.args.key c.loop-k.later c.loop-k.rest c.size-later.result c.size-later.ensures c.loop-k.invariant
    c.loop-k-test.true

pub nonzero_rem-rest : goal.nonzero_rem-rest
nonzero_rem-rest c =
    later-item_some c.args.parts.now c.loop-k.k c.index-parts-k.result (omega arith) c.index-parts-k.is
    c.args.place c.args.key c.loop-k.later c.loop-k.rest c.size-later.result c.size-later.ensures c.loop-k.invariant

pub nonzero_div-result-2 : goal.nonzero_div-result-2
nonzero_div-result-2 c =
    later-item_some c.args.parts.now c.loop-k.k c.index-parts-place.result (omega arith)
    (same_place c.args.parts.now _ _ c.index-parts-place.result (omega arith) c.index-parts-place.is)
    c.args.place c.args.key c.loop-k.later c.loop-k.rest c.size.result c.size.ensures c.loop-k.invariant

pub returns : goal.returns
returns c =
    digit-here c.args.parts.now c.loop-k.k c.index-parts-place.result (omega arith)
    (same_place c.args.parts.now _ _ c.index-parts-place.result (omega arith) c.index-parts-place.is)
    c.args.place c.args.key c.loop-k.later c.loop-k.rest c.size.result c.size.ensures c.loop-k.invariant (omega arith)
