use Rattle.std.proofs.Common.{refl}
use Rattle.board_table.proofs.Answering.{claim_home, is_pair, is_no_pair, is_claim_full, both_stand}
use Rattle.board_table.proofs.board.Board.claim.Goals as goal

pub free-requires-clause-home : goal.free-requires-clause-home
free-requires-clause-home g c κs low =
    claim_home g.F.Fused.rows g.F.Fused.stands _ _ _ c.in-Some.ensures.turn _ refl _
    c.claim_by-answer.result c.claim_by-answer.ensures.answer

pub returns-in-Pair-clause-answer : goal.returns-in-Pair-clause-answer
returns-in-Pair-clause-answer g c =
    is_pair g.F.Fused.rows g.F.Fused.stands _ _ _ c.in-Some.ensures.turn _ refl _
    _ c.free.ensures.freed _ c.in-Pair.ensures.answer

pub returns-in-Pair-clause-stands : goal.returns-in-Pair-clause-stands
returns-in-Pair-clause-stands g c =
    both_stand g.F.Fused.rows g.F.Fused.stands _ _ _ c.in-Some.ensures.turn _ refl _ _ c.in-Pair.ensures.answer

pub returns-in-NoPair-clause-answer : goal.returns-in-NoPair-clause-answer
returns-in-NoPair-clause-answer g c =
    is_no_pair g.F.Fused.rows g.F.Fused.stands _ _ _ c.in-Some.ensures.turn _ refl _
    _ c.free.ensures.freed c.in-NoPair.ensures.answer

pub returns-in-Full-clause-answer : goal.returns-in-Full-clause-answer
returns-in-Full-clause-answer g c =
    is_claim_full g.F.Fused.rows g.F.Fused.stands _ _ _ c.in-Some.ensures.turn _ refl _
    _ c.free.ensures.freed c.in-Full.ensures.answer
