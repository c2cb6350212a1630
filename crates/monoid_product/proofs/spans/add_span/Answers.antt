use Rattle.std.proofs.Common.{◌+◌, ◌*◌, ◌<◌, ◌++◌, ap, map, slice_index_or, ◌∙◌, arith}
use Rattle.monoid_kit.specs.Spans.{moved}
use Rattle.monoid_product.specs.Nested.{shifted, at_place}
use Rattle.monoid_product.proofs.Nested.{digit-below, flat_map-range_more}
use Rattle.monoid_product.proofs.spans.add_span.Goals as goal

pub moved-to-requires : goal.moved-to-requires
moved-to-requires c =
    let within : moved c.args.span c.loop-i.i < c.args.size = c.requires.outer.to c.loop-i.i c.loop-i-test.true in
    omega arith

pub add_shifted-requires-clause-to_fits : goal.add_shifted-requires-clause-to_fits
add_shifted-requires-clause-to_fits c k d below =
    let span = slice_index_or c.args.inner.now k d in
    let inner : span.to < c.args.later = (c.requires.inner k d below).1 in
    let within = c.requires.outer.to c.loop-i.i c.loop-i-test.true in
    let same = c.moved-to.ensures in
    let less = digit-below c.moved-to.result c.args.size c.args.later span.to c.requires.few (omega arith) inner in
    omega arith

pub loop-i-preserved : goal.loop-i-preserved
loop-i-preserved c =
    let from = (c.args.span.from + c.loop-i.i) * c.args.later in
    flat_map-range_more (at_place c.args.later c.args.inner.now c.args.span) c.args.spans.now.items c.loop-i.spans.items
    _
    c.loop-i.i c.loop-i.invariant
    (c.in_ok-add_shifted.ensures
    ∙ ap (λ to. c.loop-i.spans.items ++ map (shifted from (to * c.args.later)) c.args.inner.now) c.moved-to.ensures)
