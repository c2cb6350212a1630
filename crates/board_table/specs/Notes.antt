-- Notes as contracts see them, and what a meeting with one gives.
use Rattle.std.specs.Prelude.{ℕ, ◌≡◌, ◌≤◌, List, [], length, Option, Some, None}
use Rattle.atomic_table.specs.Seated.{TableId}
use Rattle.board_core.specs.declared.event.Logged.{Logged}
use Rattle.board_core.specs.Replay.{IsLegal}
use Rattle.board_table.specs.declared.view.View.{View}
use Rattle.board_table.specs.declared.view.View.TheVariants as view
use Rattle.board_table.specs.Views.{StartsWith, longer}
use Rattle.board_table.specs.Rule.{Slot}
use Rattle.board_table.specs.Steps.{Holder}
use Rattle.board_table.specs.Seen.{SeatSeen}

pub record NoteSeen (F : Type 0) : Type 0 where
  -- the board that it belongs to, and what all its callers agree on
  pub table : TableId
  pub plan : Option F
  pub rows : ℕ
  pub room : ℕ
  pub callers : ℕ
  -- the log as its maker had seen it
  pub seen : List Logged

module _ {F : Type 0} where
  abbrev pub note_seen : (F → ℕ) → TableId → View F → NoteSeen F
  note_seen rows table (view.Note s) =
      record {
        table = table;
        plan = Some s.terms.plan;
        rows = rows s.terms.plan;
        room = s.terms.room;
        callers = s.terms.callers;
        seen = s.seen;
      }
  note_seen rows table v =
      record { table = table; plan = None; rows = 0; room = 0; callers = 0; seen = [] }

  module _ {W : Type 0} where
    abbrev pub IsNoteWith : View F → List (ℕ × Slot W) → Type 0
    IsNoteWith (view.Note s) slots = slots ≡ []
    IsNoteWith v slots = ⊥

    abbrev pub IsNote : Holder F W → Type 0
    IsNote me = IsNoteWith me.0 me.1

  -- the note says what the seat has seen
  pub record IsNoteOf (seat : SeatSeen F) (note : NoteSeen F) : Type 0 where
    pub table : note.table ≡ seat.table
    pub plan : note.plan ≡ seat.plan
    pub rows : note.rows ≡ seat.rows
    pub room : note.room ≡ seat.room
    pub callers : note.callers ≡ seat.callers
    pub seen : note.seen ≡ seat.seen

  -- the seat has seen the longer of both logs, of which both are beginnings, and it is legal
  pub record Meets (old : SeatSeen F) (note : NoteSeen F) (new : SeatSeen F) : Type 0 where
    pub seat : new ≡ record old { seen = longer old.seen note.seen }
    pub seat_log : StartsWith new.seen old.seen
    pub note_log : StartsWith new.seen note.seen
    pub legal : IsLegal new.rows new.room new.seen
    pub length : length new.seen ≤ new.room
