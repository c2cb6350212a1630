use Rattle.std.proofs.Common.{◌+◌, ◌-◌, ◌<◌, ◌≤◌, length}
use Rattle.board_table.specs.Seen.{IsSameSeat}
use Rattle.worker_pool.specs.Sites.{IsAtWork, spent_by}
use Rattle.worker_pool.proofs.Accounting.{Working}
use Rattle.worker_pool.proofs.working.take_turns.Given as goal

abbrev pub invariant-loop-pocket : goal.invariant-loop-pocket
invariant-loop-pocket g l = record {
  at_work : IsAtWork l.site l.worker;
  same : IsSameSeat l.fn.worker.seat l.worker.seat;
  working : Working g.F.Fused.rows g.F.Fused.stands l.site.cut.now l.fn.worker.seat l.pocket l.missed l.worker;
  few_missed : l.missed < 1000000;
  cost : l.steps ≤ l.fn.steps + spent_by g.F.Fused.leaf_bound g.F.Fused.join_bound l.site l.worker;
}

abbrev pub decreases-loop-pocket : goal.decreases-loop-pocket
decreases-loop-pocket g l = 1000000 - l.missed + (l.worker.seat.room - length l.worker.seat.seen)
