use Rattle.std.proofs.Common.{◌≡◌, ◌++◌}
use Rattle.std.specs.List.{All, flat_map}
use Rattle.std.specs.Vec.Iter.{into_iter_items}
use Rattle.worker_pool.specs.Walk.{IsGood}
use Rattle.worker_pool.proofs.solving.with_pockets.Given as goal

abbrev pub invariant-loop-worker : goal.invariant-loop-worker
invariant-loop-worker g l = record {
  can_next : (goal.iterator-loop-worker g).can_next l.worker-iterator;
  is_finite : (goal.iterator-loop-worker g).is_finite l.worker-iterator;
  rest : l.fn.done.items ≡ l.yielded ++ into_iter_items l.worker-iterator;
  all : l.pieces.items ≡ l.fn.pieces.items ++ flat_map (λ d. d.pocket.items) l.yielded;
  good : All (IsGood (g.F.Fused.rows l.plan) (g.F.Fused.stands l.plan)) l.pieces.items;
}
