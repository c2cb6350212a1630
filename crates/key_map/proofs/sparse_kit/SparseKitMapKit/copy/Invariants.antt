use Rattle.std.proofs.Common.{◌≡◌, take}
use Rattle.key_map.proofs.sparse_kit.SparseKitMapKit.copy.Given as goal

abbrev pub invariant-loop-slot : goal.invariant-loop-slot
invariant-loop-slot g l = l.slots.items ≡ take l.slot-index l.slot-items
