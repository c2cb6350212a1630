use Rattle.std.proofs.Common.{refl}
use Rattle.board_table.proofs.Answering.{offer_home, is_kept, is_overlapping, is_full}
use Rattle.board_table.proofs.board.Board.offer.Goals as goal

pub free-requires-clause-home : goal.free-requires-clause-home
free-requires-clause-home g c κs low =
    offer_home g.F.Fused.rows g.F.Fused.stands _ _ _ c.in-Some.ensures.turn _ refl _ c.args.piece c.requires.nonempty
    c.requires.within c.requires.stands
    c.offer_by-answer.result c.offer_by-answer.ensures.answer

pub returns-in-Kept-clause-answer : goal.returns-in-Kept-clause-answer
returns-in-Kept-clause-answer g c =
    is_kept g.F.Fused.rows g.F.Fused.stands _ _ _ c.in-Some.ensures.turn _ refl _ c.args.piece c.requires.nonempty
    c.requires.within c.requires.stands
    _ c.free.ensures.freed c.in-Kept.ensures.answer

pub returns-in-Overlaps-clause-answer : goal.returns-in-Overlaps-clause-answer
returns-in-Overlaps-clause-answer g c =
    is_overlapping g.F.Fused.rows g.F.Fused.stands _ _ _ c.in-Some.ensures.turn _ refl _ c.args.piece
    c.requires.nonempty c.requires.within c.requires.stands
    _ c.free.ensures.freed _ c.in-Overlaps.ensures.answer

pub returns-in-Full-clause-answer : goal.returns-in-Full-clause-answer
returns-in-Full-clause-answer g c =
    is_full g.F.Fused.rows g.F.Fused.stands _ _ _ c.in-Some.ensures.turn _ refl _ c.args.piece c.requires.nonempty
    c.requires.within c.requires.stands
    _ c.free.ensures.freed _ c.in-Full.ensures.answer
