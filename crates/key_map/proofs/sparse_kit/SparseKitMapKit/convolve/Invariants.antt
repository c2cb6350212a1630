use Rattle.std.proofs.Common.{◌+◌, ◌*◌, ◌≤◌, length, take}
use Rattle.semiring_kit.specs.Total.{total}
use Rattle.key_map.specs.Slots.{products_at}
use Rattle.key_map.specs.Rows.{IsGathered, slots_from}
use Rattle.key_map.proofs.sparse_kit.SparseKitMapKit.convolve.Given as goal

abbrev pub invariant-loop-left : goal.invariant-loop-left
invariant-loop-left g l =
    let ring = g.S.Semiring.ring l.self.kit in
    let times = g.M.Monoid.mul l.self.keys in
    let b = l.b.items in
    record {
      gathered : IsGathered ring l.initial.row.items l.row.items
          (λ k. total ring (λ left. products_at ring times left b k) (take l.left-index l.left-items));
      few : length (slots_from 0 l.row.items) ≤ l.left-index * length b;
      cost : l.steps ≤ l.initial.steps + l.left-index * length b;
    }
