use Rattle.std.proofs.Common.{arith}
use Rattle.worker_pool.proofs.Costs.{walk_within}
use Rattle.worker_pool.proofs.solving.solve.Goals as goal

pub returns-clause-cost : goal.returns-clause-cost
returns-clause-cost g c =
    omega (
      arith,
      c.gather.ensures.cost,
      walk_within (g.F.Fused.leaf_bound c.args.plan.now)
          (g.F.Fused.join_bound c.args.plan.now) c.args.cut.now c.in_ok-pieces.pieces.items,
    )
