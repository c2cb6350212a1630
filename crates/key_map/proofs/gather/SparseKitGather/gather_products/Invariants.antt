use Rattle.std.proofs.Common.{◌+◌, ◌≤◌, length, take}
use Rattle.key_map.specs.Slots.{products_at}
use Rattle.key_map.specs.Rows.{IsGathered, slots_from}
use Rattle.key_map.proofs.gather.SparseKitGather.gather_products.Given as goal

abbrev pub invariant-loop-slot : goal.invariant-loop-slot
invariant-loop-slot g l =
    let ring = g.S.Semiring.ring l.self.kit in
    let times = g.M.Monoid.mul l.self.keys in
    record {
      gathered : IsGathered ring l.initial.row.items l.row.items
          (products_at ring times l.left (take l.slot-index l.right));
      few : length (slots_from 0 l.row.items) ≤ length (slots_from 0 l.initial.row.items) + l.slot-index;
      cost : l.steps ≤ l.initial.steps + l.slot-index;
    }
