use Rattle.steal_deal.specs.Hands.{IsDealtWith}
use Rattle.worker_pool.proofs.Taking.{StillLooks}
use Rattle.worker_pool.proofs.drawing.draw.Given as goal

abbrev pub invariant-loop-from : goal.invariant-loop-from
invariant-loop-from l = record {
  dealt : IsDealtWith l.blocks l.hand;
  looks : StillLooks l.fn.hand.view l.hand.view l.from;
}
