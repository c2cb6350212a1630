use Rattle.worker_pool.proofs.Turning.{pair_settled, missed_pair}
use Rattle.worker_pool.proofs.turn.settle.Goals as goal

pub returns-in-Kept-clause-turn : goal.returns-in-Kept-clause-turn
returns-in-Kept-clause-turn g c =
    pair_settled g.F.Fused.rows g.F.Fused.stands c.args.seat.now c.settle.new.seat c.args.taken c.args.value
    c.in-Kept.ensures.answer c.requires.taken

pub returns-in-Busy-clause-turn : goal.returns-in-Busy-clause-turn
returns-in-Busy-clause-turn g c =
    missed_pair g.F.Fused.rows g.F.Fused.stands c.args.seat.now c.settle.new.seat c.args.taken c.in-Busy.taken
    c.args.value c.in-Busy.value
    c.in-Busy.ensures.answer c.requires.taken c.requires.pair c.requires.stands
