use Rattle.std.proofs.Common.{◌+◌, length}
use Rattle.key_map.proofs.Merges.{IsMerging}
use Rattle.key_map.proofs.sparse_kit.SparseKitMapKit.add.Given as goal

abbrev pub invariant-loop-sums : goal.invariant-loop-sums
invariant-loop-sums g l =
    IsMerging (g.S.Semiring.ring l.self.kit) (g.M.Monoid.size l.self.keys) l.a.items l.b.items l.sums.items l.left
    l.right

abbrev pub decreases-loop-sums : goal.decreases-loop-sums
decreases-loop-sums g l = length l.left + length l.right
