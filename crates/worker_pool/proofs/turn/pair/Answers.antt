use Rattle.std.proofs.Common.{refl, arith}
use Rattle.worker_pool.specs.declared.pocket.Pocket.TheVariants.{Empty}
use Rattle.worker_pool.specs.declared.turn.Turn.TheVariants.{Missed, Drained}
use Rattle.worker_pool.specs.Leaves.{HasMetAll}
use Rattle.worker_pool.proofs.Turning.{pair_then, no_pair_left, no_room_left, claim_missed, one_pair_more}
use Rattle.worker_pool.proofs.WorkerTurns.{without_leaf, if_drained}
use Rattle.worker_pool.proofs.turn.pair.Goals as goal

pub overflow_add-worker : goal.overflow_add-worker
overflow_add-worker g c =
    omega (
      arith,
      one_pair_more c.args.worker.now.seat c.claim.new.seat c.in-Pair.taken c.args.worker.now.pairs
          c.in-Pair.ensures.answer c.in-Pair.ensures.ready.room c.requires.counted,
    )

pub returns-in-Pair-clause-turn : goal.returns-in-Pair-clause-turn
returns-in-Pair-clause-turn g c =
    without_leaf g.F.Fused.rows g.F.Fused.stands c.args.site.now.cut.now c.args.worker.now _ Empty c.join.result 1
    refl refl
    (if_drained c.join.result (HasMetAll c.args.worker.now.hand.view) c.requires.none_left)
    (pair_then g.F.Fused.rows g.F.Fused.stands c.args.worker.now.seat c.claim.new.seat c.join.new.seat
    c.in-Pair.taken c.in-Pair.ensures.answer
    c.join.ensures.same.number c.join.result c.join.ensures.turn)

pub returns-in-NoPair-clause-turn : goal.returns-in-NoPair-clause-turn
returns-in-NoPair-clause-turn g c =
    without_leaf g.F.Fused.rows g.F.Fused.stands c.args.site.now.cut.now c.args.worker.now _ Empty Drained 0
    (omega arith) refl c.requires.none_left
    (no_pair_left g.F.Fused.rows g.F.Fused.stands c.args.worker.now.seat c.claim.new.seat c.in-NoPair.ensures.answer
    c.requires.taken)

pub returns-in-Full-clause-turn : goal.returns-in-Full-clause-turn
returns-in-Full-clause-turn g c =
    without_leaf g.F.Fused.rows g.F.Fused.stands c.args.site.now.cut.now c.args.worker.now _ Empty Drained 0
    (omega arith) refl c.requires.none_left
    (no_room_left g.F.Fused.rows g.F.Fused.stands c.args.worker.now.seat c.claim.new.seat c.in-Full.ensures.answer
    c.requires.taken)

pub returns-in-Busy-clause-turn : goal.returns-in-Busy-clause-turn
returns-in-Busy-clause-turn g c =
    without_leaf g.F.Fused.rows g.F.Fused.stands c.args.site.now.cut.now c.args.worker.now _ Empty (Missed Empty) 0
    (omega arith) refl tt
    (claim_missed g.F.Fused.rows g.F.Fused.stands c.args.worker.now.seat c.claim.new.seat c.in-Busy.ensures.answer
    c.requires.taken)
