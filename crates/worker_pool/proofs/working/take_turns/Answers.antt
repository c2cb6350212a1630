use Rattle.std.proofs.Common.{◌+◌, refl, add-zero, arith}
use Rattle.worker_pool.specs.declared.turn.Turn.TheVariants.{Went, Missed, Refused, Drained, Memory, Unreturned}
use Rattle.worker_pool.specs.declared.working.WorkEnd.TheVariants as ending
use Rattle.worker_pool.proofs.Accounting.{begins, goes_on, stops, stops_unreturned, same_seat, same_seat_on}
use Rattle.worker_pool.proofs.working.take_turns.Goals as goal

pub loop-pocket-init : goal.loop-pocket-init
loop-pocket-init g c = record {
  at_work = c.requires.at_work;
  same = same_seat c.args.worker.now.seat;
  working = begins g.F.Fused.rows g.F.Fused.stands c.args.site.now.cut.now c.args.worker.now.seat c.args.worker.now refl
      c.requires.none_claimed c.requires.none_taken c.requires.none_paired;
  few_missed = omega arith;
  cost = omega arith;
}

pub loop-pocket-preserved-in-Went : goal.loop-pocket-preserved-in-Went
loop-pocket-preserved-in-Went g c = record {
  at_work = c.take_turn.ensures.at_work;
  same = same_seat_on c.args.worker.now.seat c.loop-pocket.worker.seat c.take_turn.new.worker.seat
      c.loop-pocket.invariant.same c.take_turn.ensures.same;
  working =
      goes_on g.F.Fused.rows g.F.Fused.stands c.args.site.now.cut.now c.args.worker.now.seat c.loop-pocket.worker
      c.take_turn.new.worker c.loop-pocket.pocket c.loop-pocket.missed
      Went c.loop-pocket.invariant.working c.take_turn.ensures.same.number c.in-Went.ensures.turn
      c.loop-pocket.missed (add-zero c.loop-pocket.missed) refl;
  few_missed = c.loop-pocket.invariant.few_missed;
  cost = omega (arith, c.take_turn.ensures.cost, c.loop-pocket.invariant.cost);
}

pub loop-pocket-preserved : goal.loop-pocket-preserved
loop-pocket-preserved g c = record {
  at_work = c.take_turn.ensures.at_work;
  same = same_seat_on c.args.worker.now.seat c.loop-pocket.worker.seat c.take_turn.new.worker.seat
      c.loop-pocket.invariant.same c.take_turn.ensures.same;
  working =
      goes_on g.F.Fused.rows g.F.Fused.stands c.args.site.now.cut.now c.args.worker.now.seat c.loop-pocket.worker
      c.take_turn.new.worker c.loop-pocket.pocket c.loop-pocket.missed
      (Missed c.in-Missed.left) c.loop-pocket.invariant.working c.take_turn.ensures.same.number
      c.in-Missed.ensures.turn (c.loop-pocket.missed + 1) refl refl;
  few_missed = omega (arith, c.if-missed-eq-MOST_MISSES.false, c.loop-pocket.invariant.few_missed);
  cost = omega (arith, c.take_turn.ensures.cost, c.loop-pocket.invariant.cost);
}

pub returns-then-missed-eq-MOST_MISSES-clause-stop : goal.returns-then-missed-eq-MOST_MISSES-clause-stop
returns-then-missed-eq-MOST_MISSES-clause-stop g c =
    stops g.F.Fused.rows g.F.Fused.stands c.args.site.now.cut.now c.args.worker.now.seat c.loop-pocket.worker
    c.take_turn.new.worker c.loop-pocket.pocket c.loop-pocket.missed
    (Missed c.in-Missed.left) c.loop-pocket.invariant.working c.take_turn.ensures.same.number c.in-Missed.ensures.turn
    ending.Idle (omega arith) tt (λ is. c.if-missed-eq-MOST_MISSES.true, λ is. refl)

pub returns-in-Refused-clause-stop : goal.returns-in-Refused-clause-stop
returns-in-Refused-clause-stop g c =
    let few = c.loop-pocket.invariant.few_missed in
    let turn = c.in-Refused.ensures.turn in
    stops g.F.Fused.rows g.F.Fused.stands c.args.site.now.cut.now c.args.worker.now.seat c.loop-pocket.worker
    c.take_turn.new.worker c.loop-pocket.pocket c.loop-pocket.missed
    (Refused c.in-Refused.piece) c.loop-pocket.invariant.working c.take_turn.ensures.same.number
    c.in-Refused.ensures.turn
    ending.Refused (omega arith) (turn.ends.makes.in_hand.0, (c.in-Refused.piece, refl, turn.ends.tells))
    (λ is. absurd (cc), λ is. absurd (omega arith))

pub returns-in-Drained-clause-stop : goal.returns-in-Drained-clause-stop
returns-in-Drained-clause-stop g c =
    let few = c.loop-pocket.invariant.few_missed in
    let turn = c.in-Drained.ensures.turn in
    stops g.F.Fused.rows g.F.Fused.stands c.args.site.now.cut.now c.args.worker.now.seat c.loop-pocket.worker
    c.take_turn.new.worker c.loop-pocket.pocket c.loop-pocket.missed
    Drained c.loop-pocket.invariant.working c.take_turn.ensures.same.number c.in-Drained.ensures.turn
    ending.Drained (omega arith)
    (refl, turn.met, omega (arith, c.loop-pocket.invariant.working.won, turn.ends.tells.0), turn.ends.tells.1)
    (λ is. absurd (cc), λ is. absurd (omega arith))

pub returns-in-Memory-clause-stop : goal.returns-in-Memory-clause-stop
returns-in-Memory-clause-stop g c =
    let few = c.loop-pocket.invariant.few_missed in
    stops g.F.Fused.rows g.F.Fused.stands c.args.site.now.cut.now c.args.worker.now.seat c.loop-pocket.worker
    c.take_turn.new.worker c.loop-pocket.pocket c.loop-pocket.missed
    Memory c.loop-pocket.invariant.working c.take_turn.ensures.same.number c.in-Memory.ensures.turn
    ending.Memory (omega arith) tt (λ is. absurd (cc), λ is. absurd (omega arith))

pub returns-in-Unreturned-clause-stop : goal.returns-in-Unreturned-clause-stop
returns-in-Unreturned-clause-stop g c =
    stops_unreturned g.F.Fused.rows g.F.Fused.stands c.args.site.now.cut.now c.args.worker.now.seat
    c.loop-pocket.worker c.take_turn.new.worker c.loop-pocket.pocket c.loop-pocket.missed
    (Unreturned c.in-Unreturned.taken) c.loop-pocket.invariant.working c.take_turn.ensures.same.number
    c.in-Unreturned.ensures.turn
    c.without_memory-end.result refl refl c.without_memory-end.ensures
