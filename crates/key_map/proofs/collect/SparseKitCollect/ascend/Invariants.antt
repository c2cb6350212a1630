use Rattle.std.proofs.Common.{◌≤◌, take}
use Rattle.key_map.specs.Slots.{FitsSlots}
use Rattle.key_map.proofs.collect.SparseKitCollect.ascend.Given as goal

abbrev pub invariant-loop-slot : goal.invariant-loop-slot
invariant-loop-slot g l = record {
  within : l.low ≤ g.M.Monoid.size l.self.keys;
  fits : FitsSlots (g.S.Semiring.ring l.self.kit) 0 l.low (take l.slot-index l.slots);
}
