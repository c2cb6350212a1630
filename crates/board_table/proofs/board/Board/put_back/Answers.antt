use Rattle.board_table.proofs.Calling.{on_board}
use Rattle.board_table.proofs.Answering.{put_back_home, is_put_back}
use Rattle.board_table.proofs.board.Board.put_back.Goals as goal

pub put_back-requires : goal.put_back-requires
put_back-requires g c = record {
  is_claim = on_board g.F.Fused.rows g.F.Fused.stands _ _ _ c.in-Some.ensures.turn c.args.taken c.requires.is_claim;
}

pub free-requires-clause-home : goal.free-requires-clause-home
free-requires-clause-home g c κs low =
    put_back_home g.F.Fused.rows g.F.Fused.stands _ _ _ c.in-Some.ensures.turn c.args.taken c.requires.is_claim _
    c.requires.left_stands c.requires.right_stands
    c.put_back.ensures.put_back

pub returns-clause-answer : goal.returns-clause-answer
returns-clause-answer g c =
    is_put_back g.F.Fused.rows g.F.Fused.stands _ _ _ c.in-Some.ensures.turn c.args.taken c.requires.is_claim _ _
    c.free.ensures.freed c.put_back.ensures.put_back
