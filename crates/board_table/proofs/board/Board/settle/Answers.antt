use Rattle.board_table.proofs.Calling.{on_board}
use Rattle.board_table.proofs.Answering.{settle_home, is_settled}
use Rattle.board_table.proofs.board.Board.settle.Goals as goal

pub settle-requires : goal.settle-requires
settle-requires g c = record {
  is_claim = on_board g.F.Fused.rows g.F.Fused.stands _ _ _ c.in-Some.ensures.turn c.args.taken c.requires.is_claim;
}

pub free-requires-clause-home : goal.free-requires-clause-home
free-requires-clause-home g c κs low =
    settle_home g.F.Fused.rows g.F.Fused.stands _ _ _ c.in-Some.ensures.turn c.args.taken c.requires.is_claim _ _
    c.requires.stands c.settle.ensures.settled

pub returns-clause-answer : goal.returns-clause-answer
returns-clause-answer g c =
    is_settled g.F.Fused.rows g.F.Fused.stands _ _ _ c.in-Some.ensures.turn c.args.taken c.requires.is_claim _ _ _
    c.free.ensures.freed c.settle.ensures.settled
