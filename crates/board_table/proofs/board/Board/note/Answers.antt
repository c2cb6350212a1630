use Rattle.std.proofs.Common.{ap, ◌∙◌, arith}
use Rattle.board_table.specs.Seen.{SeatSeen}
use Rattle.board_table.proofs.Holding.{own_table}
use Rattle.board_table.proofs.Meeting.{tell_allowed}
use Rattle.board_table.proofs.board.Board.note.Goals as goal

pub split_seat-raw-requires : goal.split_seat-raw-requires
split_seat-raw-requires g c =
    let one = c.self.invariant.words in (
      own_table _ _ _ _ _ _ c.seat.view_is c.self.view_is c.requires.ready.table,
      omega arith,
      tell_allowed g.F.Fused.rows g.F.Fused.stands c.seat.inside.number c.seat.inside.spare
          c.seat.inside.raw.table_id c.self.inside.table.shared.key
          c.seat.inside.raw.id c.seat.inside.raw.me c.seat.invariant
          (ap (λ (s : SeatSeen g.row.F.Denot). s.holds) c.seat.view_is ∙ c.requires.ready.turn),
    )
