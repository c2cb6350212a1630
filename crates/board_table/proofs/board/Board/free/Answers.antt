use Rattle.std.proofs.Common.{sym, subst, ◌∙◌, arith}
use mathlib.Core.Option.{none}
use Rattle.atomic_table.specs.Table.{step}
use Rattle.board_table.specs.Seen.{SeatSeen}
use Rattle.board_table.specs.Changes.{MayGoHome}
use Rattle.board_table.proofs.Holding.{own_table, free_allowed}
use Rattle.board_table.proofs.board.Board.free.Goals as goal

pub swap-requires : goal.swap-requires
swap-requires g c =
    let one = c.self.invariant.words in
    let P : SeatSeen g.row.F.Denot → Type 0 = λ s. MayGoHome g.F.Fused.rows g.F.Fused.stands s c.args.core in (
      c.exchange-nothing.ensures.0 ∙ own_table _ _ _ _ _ _ c.seat.view_is c.self.view_is c.requires.table,
      omega arith,
      free_allowed g.F.Fused.rows g.F.Fused.stands c.seat.inside.number c.seat.inside.spare
          c.seat.inside.raw.table_id c.self.inside.table.shared.key
          _ _ (step 1 0 0 0 none) c.args.core c.seat.inside.raw.me _ c.seat.invariant
          (subst P (sym c.seat.view_is) c.requires.home) c.exchange-nothing.ensures.3,
    )
