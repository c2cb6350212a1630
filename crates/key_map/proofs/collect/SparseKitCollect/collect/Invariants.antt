use Rattle.std.proofs.Common.{length}
use Rattle.key_map.proofs.Gathers.{IsGathering}
use Rattle.key_map.proofs.collect.SparseKitCollect.collect.Given as goal

abbrev pub invariant-loop-slot : goal.invariant-loop-slot
invariant-loop-slot g l =
    IsGathering (g.S.Semiring.ring l.self.kit) (g.M.Monoid.size l.self.keys) l.fn.loose.items l.row.items l.loose.items

abbrev pub decreases-loop-slot : goal.decreases-loop-slot
decreases-loop-slot g l = length l.loose.items
