use Rattle.std.proofs.Common.{ap, ◌∙◌, arith}
use mathlib.Core.Option.{none}
use Rattle.atomic_table.specs.Table.{step}
use Rattle.board_table.specs.Seen.{SeatSeen}
use Rattle.board_table.proofs.Holding.{own_table}
use Rattle.board_table.proofs.Meeting.{own_note, note_slots, meet_allowed, look_allowed, has_met, meets_seen}
use Rattle.board_table.proofs.board.Board.meet.Goals as goal

pub join_seat-requires : goal.join_seat-requires
join_seat-requires g c =
    let one = c.self.invariant.words in (
      own_table _ _ _ _ _ _ c.seat.view_is c.self.view_is c.requires.ready.table,
      own_note _ _ _ _ _ _ c.note.view_is c.self.view_is c.requires.note,
      note_slots c.note.inside.raw.me c.note.invariant,
      omega arith,
      meet_allowed g.F.Fused.rows g.F.Fused.stands c.seat.inside.number c.seat.inside.spare
          c.seat.inside.raw.table_id c.self.inside.table.shared.key
          c.seat.inside.raw.id c.note.inside.raw.id c.seat.inside.raw.me c.note.inside.raw.me c.seat.invariant
          (ap (λ (s : SeatSeen g.row.F.Denot). s.holds) c.seat.view_is ∙ c.requires.ready.turn) c.note.invariant,
    )

pub load-requires : goal.load-requires
load-requires g c =
    let one = c.self.invariant.words in (
      c.join_seat.ensures.0 ∙ own_table _ _ _ _ _ _ c.seat.view_is c.self.view_is c.requires.ready.table,
      omega arith,
      look_allowed g.F.Fused.rows g.F.Fused.stands c.seat.inside.number c.seat.inside.spare
          c.seat.inside.raw.table_id c.self.inside.table.shared.key
          _ _ (step 1 0 0 0 none) c.seat.inside.raw.me c.note.inside.raw.me _ c.seat.invariant
          (ap (λ (s : SeatSeen g.row.F.Denot). s.holds) c.seat.view_is ∙ c.requires.ready.turn) c.note.invariant
          c.join_seat.ensures.2,
    )

pub returns-clause-meets : goal.returns-clause-meets
returns-clause-meets g c =
    meets_seen g.F.Fused.rows g.F.Fused.stands c.seat.inside.number c.seat.inside.spare c.seat.inside.raw.table_id
    c.note.inside.raw.table_id _
    c.seat.inside.raw.me c.note.inside.raw.me c.load.new.seat.me _ _ (c.load.ensures.0 ∙ c.join_seat.ensures.0)
    c.seat.view_is c.note.view_is
    (has_met g.F.Fused.rows g.F.Fused.stands c.seat.inside.number c.seat.inside.spare c.seat.inside.raw.table_id
    (step 1 0 0 0 none) 0 c.note.inside.raw.table_id
    c.seat.inside.raw.me c.note.inside.raw.me _ _ c.seat.invariant
    (ap (λ (s : SeatSeen g.row.F.Denot). s.holds) c.seat.view_is ∙ c.requires.ready.turn)
    c.note.invariant c.join_seat.ensures.2 c.load.ensures.2).1
