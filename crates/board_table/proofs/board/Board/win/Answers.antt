use Rattle.std.proofs.Common.{ap, ◌∙◌, arith}
use mathlib.Core.Option.{none}
use Rattle.atomic_table.specs.Table.{step}
use Rattle.board_table.specs.Seen.{SeatSeen}
use Rattle.board_table.proofs.Holding.{own_table, try_allowed, won_slot}
use Rattle.board_table.proofs.board.Board.win.Goals as goal

pub compare_exchange-requires : goal.compare_exchange-requires
compare_exchange-requires g c =
    let one = c.self.invariant.words in (
      own_table _ _ _ _ _ _ c.seat.view_is c.self.view_is c.requires.ready.table,
      omega arith,
      try_allowed g.F.Fused.rows g.F.Fused.stands c.seat.inside.number c.seat.inside.spare c.seat.inside.raw.table_id
          c.self.inside.table.shared.key
          c.seat.inside.raw.id _ (step 1 0 0 1 none) c.seat.inside.raw.me c.seat.invariant
          (ap (λ (s : SeatSeen g.row.F.Denot). s.holds) c.seat.view_is ∙ c.requires.ready.turn),
    )

pub exchange-requires : goal.exchange-requires
exchange-requires g c =
    let read = c.if-compare_exchange-ne0.false in (
      c.compare_exchange.ensures.0 ∙ own_table _ _ _ _ _ _ c.seat.view_is c.self.view_is c.requires.ready.table,
      won_slot g.F.Fused.rows g.F.Fused.stands c.seat.inside.number c.seat.inside.spare c.seat.inside.raw.table_id
          (step 1 0 0 1 none) _ c.seat.inside.raw.me _ c.seat.invariant
          c.compare_exchange.ensures.2 (omega arith),
    )
