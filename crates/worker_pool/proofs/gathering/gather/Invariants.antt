use Rattle.worker_pool.proofs.Walking.{Walked}
use Rattle.worker_pool.proofs.gathering.gather.Given as goal

abbrev pub invariant-loop-place : goal.invariant-loop-place
invariant-loop-place g l =
    Walked (g.F.Fused.stands l.plan) (g.F.Fused.leaf_bound l.plan) (g.F.Fused.join_bound l.plan) l.bounds
    l.fn.pieces.items
    l.place l.at l.value l.places l.fn.steps l.steps
