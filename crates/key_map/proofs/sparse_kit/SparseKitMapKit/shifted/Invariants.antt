use Rattle.std.proofs.Common.{◌+◌, ◌≤◌, take}
use Rattle.key_map.proofs.Shifts.{IsShifting}
use Rattle.key_map.proofs.sparse_kit.SparseKitMapKit.shifted.Given as goal

abbrev pub invariant-loop-slot : goal.invariant-loop-slot
invariant-loop-slot g l = record {
  shifting : IsShifting (g.S.Semiring.ring l.self.kit) (g.M.Monoid.size l.self.keys) (g.M.Monoid.mul l.self.keys)
      l.key l.elem
      (take l.slot-index l.slot-items) l.slots.items;
  cost : l.steps ≤ l.initial.steps + l.slot-index;
}
