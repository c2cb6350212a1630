use Rattle.worker_pool.proofs.Turning.{pair_was_back, missed_back}
use Rattle.worker_pool.proofs.turn.put_back.Goals as goal

pub returns-in-Kept-clause-turn : goal.returns-in-Kept-clause-turn
returns-in-Kept-clause-turn g c =
    pair_was_back g.F.Fused.rows g.F.Fused.stands c.args.seat.now c.put_back.new.seat c.args.taken
    c.in-Kept.ensures.answer c.requires.taken

pub returns-in-Busy-clause-turn : goal.returns-in-Busy-clause-turn
returns-in-Busy-clause-turn g c =
    missed_back g.F.Fused.rows g.F.Fused.stands c.args.seat.now c.put_back.new.seat c.args.taken c.in-Busy.taken
    c.in-Busy.ensures.answer c.requires.taken c.requires.pair
