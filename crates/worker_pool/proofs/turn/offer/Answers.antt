use Rattle.worker_pool.proofs.Turning.{offer_kept, offer_missed, refused_overlaps, refused_full}
use Rattle.worker_pool.proofs.turn.offer.Goals as goal

pub returns-in-Kept-clause-turn : goal.returns-in-Kept-clause-turn
returns-in-Kept-clause-turn g c =
    offer_kept g.F.Fused.rows g.F.Fused.stands c.args.seat.now c.offer.new.seat c.in-Kept.ensures.same c.args.piece
    c.in-Kept.ensures.answer c.requires.taken

pub returns-in-Overlaps-clause-turn : goal.returns-in-Overlaps-clause-turn
returns-in-Overlaps-clause-turn g c =
    refused_overlaps g.F.Fused.rows g.F.Fused.stands c.args.seat.now c.offer.new.seat c.in-Overlaps.ensures.same
    c.args.piece c.in-Overlaps.piece
    c.in-Overlaps.ensures.answer c.requires.taken c.requires.stands

pub returns-in-Full-clause-turn : goal.returns-in-Full-clause-turn
returns-in-Full-clause-turn g c =
    refused_full g.F.Fused.rows g.F.Fused.stands c.args.seat.now c.offer.new.seat c.in-Full.ensures.same c.args.piece
    c.in-Full.piece
    c.in-Full.ensures.answer c.requires.taken c.requires.stands

pub returns-in-Busy-clause-turn : goal.returns-in-Busy-clause-turn
returns-in-Busy-clause-turn g c =
    offer_missed g.F.Fused.rows g.F.Fused.stands c.args.seat.now c.offer.new.seat c.in-Busy.ensures.same c.args.piece
    c.in-Busy.piece
    c.in-Busy.ensures.answer c.requires.taken c.requires.stands
