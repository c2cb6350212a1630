use Rattle.std.proofs.Common.{◌+◌, length}
use Rattle.key_map.proofs.Merges.{IsMerging}
use Rattle.key_map.proofs.sparse_kit.SparseKitMapKit.sum.Given as goal

abbrev pub invariant-loop-right : goal.invariant-loop-right
invariant-loop-right g l =
    IsMerging (g.S.Semiring.ring l.self.kit) (g.M.Monoid.size l.self.keys) l.fn.a.items l.fn.b.items l.sums.items
    l.left.items l.right.items

abbrev pub decreases-loop-right : goal.decreases-loop-right
decreases-loop-right g l = length l.left.items + length l.right.items
