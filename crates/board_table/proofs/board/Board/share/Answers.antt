use Rattle.std.proofs.Common.{◌≤◌, ap, sym, subst, ◌∙◌, arith}
use Rattle.board_table.specs.Seen.{SeatSeen}
use Rattle.board_table.proofs.Holding.{own_table}
use Rattle.board_table.proofs.Meeting.{share_allowed, numbers_fit}
use Rattle.board_table.proofs.board.Board.share.Goals as goal

pub split_seat-raw-requires : goal.split_seat-raw-requires
split_seat-raw-requires g c =
    let one = c.self.invariant.words in
    let P : SeatSeen g.row.F.Denot → Type 0 = λ s. 1 ≤ s.spare in (
      own_table _ _ _ _ _ _ c.seat.view_is c.self.view_is c.requires.ready.table,
      omega arith,
      share_allowed g.F.Fused.rows g.F.Fused.stands c.seat.inside.number c.seat.inside.spare
          c.seat.inside.raw.table_id c.self.inside.table.shared.key
          c.seat.inside.raw.id c.seat.inside.raw.me c.seat.invariant
          (ap (λ (s : SeatSeen g.row.F.Denot). s.holds) c.seat.view_is ∙ c.requires.ready.turn)
          (subst P (sym c.seat.view_is) c.requires.spare),
    )

pub overflow_add-number : goal.overflow_add-number
overflow_add-number g c =
    let below = numbers_fit g.F.Fused.rows g.F.Fused.stands c.seat.inside.number c.seat.inside.spare
    c.seat.inside.raw.table_id c.seat.inside.raw.me c.seat.invariant in
    omega arith
