use Rattle.std.proofs.Common.{◌≡◌, ◌-◌, ◌++◌, length}
use Rattle.std.specs.List.{All}
use Rattle.std.specs.Vec.Iter.{into_iter_items}
use Rattle.worker_pool.specs.Jobs.{IsJob, MayShare}
use Rattle.worker_pool.proofs.solving.share_out.Given as goal

abbrev pub invariant-loop-hand : goal.invariant-loop-hand
invariant-loop-hand g l = record {
  can_next : (goal.iterator-loop-hand g).can_next l.hand-iterator;
  is_finite : (goal.iterator-loop-hand g).is_finite l.hand-iterator;
  rest : l.fn.hands.items ≡ l.yielded ++ into_iter_items l.hand-iterator;
  counted : l.worker ≡ length l.yielded;
  seat : MayShare l.board l.plan (l.blocks.partition.workers - l.worker) l.seat;
  each : length l.jobs.items ≡ length l.yielded;
  jobs : All (IsJob l.board l.plan l.blocks) l.jobs.items;
}
