use Rattle.std.proofs.Common.{sym, subst}
use Rattle.worker_pool.specs.Pockets.{IsStanding}
use Rattle.worker_pool.proofs.Turning.{leaf_offered}
use Rattle.worker_pool.proofs.turn.leaf.Goals as goal

pub offer-requires-clause-stands : goal.offer-requires-clause-stands
offer-requires-clause-stands g c = λ κs low.
    subst (λ plan. IsStanding g.F.Fused.rows g.F.Fused.stands plan
    (record { lo = c.args.lo; hi = c.args.hi; value = c.in-Ok.value }))
    (sym c.requires.plan)
    (record { nonempty = c.requires.nonempty; within = c.requires.within; value_stands = c.in-Ok.ensures.stands })

pub returns-clause-turn : goal.returns-clause-turn
returns-clause-turn g c =
    leaf_offered g.F.Fused.rows g.F.Fused.stands c.args.seat.now c.offer.new.seat _ c.offer.result c.offer.ensures.turn
