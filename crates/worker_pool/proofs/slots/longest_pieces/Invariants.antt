use Rattle.std.proofs.Common.{◌≡◌, ◌++◌}
use Rattle.std.specs.Vec.Iter.{into_iter_items}
use Rattle.worker_pool.specs.Slots.{AreLongest}
use Rattle.worker_pool.proofs.slots.longest_pieces.Given as goal

abbrev pub invariant-loop-piece : goal.invariant-loop-piece
invariant-loop-piece g l = record {
  can_next : (goal.iterator-loop-piece g).can_next l.piece-iterator;
  is_finite : (goal.iterator-loop-piece g).is_finite l.piece-iterator;
  rest : l.fn.pieces.items ≡ l.yielded ++ into_iter_items l.piece-iterator;
  longest : AreLongest l.bounds l.yielded 0 l.places;
}
