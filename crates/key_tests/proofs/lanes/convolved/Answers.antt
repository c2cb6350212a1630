use Rattle.std.proofs.Common.{All, subst, sym, arith}
use Rattle.key_tests.proofs.LaneRows.{IsSmall, small_row-reach}
use Rattle.key_tests.proofs.lanes.convolved.Goals as goal

pub convolve-requires-clause-reaches_add_up : goal.convolve-requires-clause-reaches_add_up
convolve-requires-clause-reaches_add_up g c j k =
    let a = subst (All IsSmall) (sym c.in_ok-left.ensures.items) (c.is_small.ensures c.if-not-is_small.false).1 in
    let b = subst (All IsSmall) (sym c.in_ok-right.ensures.items)
    (c.is_small-else-not-is_small.ensures c.if-not-is_small-2.false).1 in
    let left = small_row-reach c.in_ok-left.left.items j a in
    let right = small_row-reach c.in_ok-right.right.items k b in
    omega arith
