-- Boards and seats as contracts see them.
use Rattle.std.specs.Prelude.{ℕ, ◌≡◌, ◌+◌, ◌-◌, ◌^◌, ◌<◌, Bool, false, cond, List, [], ◌∷◌, Option, Some, None}
use Rattle.atomic_table.specs.Seated.{TableId}
use Rattle.board_core.specs.declared.event.Logged.{Logged}
use Rattle.board_core.specs.declared.taken.Claim.{Claim}
use Rattle.board_table.specs.declared.view.Place.{Place}
use Rattle.board_table.specs.declared.view.View.{View}
use Rattle.board_table.specs.declared.view.View.TheVariants as view
use Rattle.board_table.specs.Rule.{Slot}
use Rattle.board_table.specs.Steps.{Holder}

-- a board has one word and one slot
pub record IsBoard (table : TableId) : Type 0 where
  pub words : table.words ≡ 1
  pub slots : table.slots ≡ 1

pub record SeatSeen (F : Type 0) : Type 0 where
  -- the board that it belongs to, and what all its callers agree on
  pub table : TableId
  pub plan : Option F
  pub rows : ℕ
  pub room : ℕ
  pub callers : ℕ
  pub number : ℕ
  -- how many numbers after its own it may still give to new seats
  pub spare : ℕ
  -- the log as it last saw it, its own entries, and its open claims
  pub seen : List Logged
  pub mine : List Logged
  pub taken : List Claim
  -- how often it won the turn, and how often it tried and did not
  pub won : ℕ
  pub missed : ℕ
  -- whether it holds the turn
  pub holds : Bool

module _ {F : Type 0} where
  abbrev pub place_seen : ℕ → TableId → Place F → SeatSeen F
  place_seen rows table p =
      record {
        table = table;
        plan = Some p.terms.plan;
        rows = rows;
        room = p.terms.room;
        callers = p.terms.callers;
        number = p.number;
        spare = p.spare;
        seen = p.seen;
        mine = p.mine;
        taken = p.taken;
        won = p.won;
        missed = p.missed;
        holds = p.holds;
      }

  abbrev pub no_seat : TableId → SeatSeen F
  no_seat table =
      record {
        table = table;
        plan = None;
        rows = 0;
        room = 0;
        callers = 0;
        number = 0;
        spare = 0;
        seen = [];
        mine = [];
        taken = [];
        won = 0;
        missed = 0;
        holds = false;
      }

  abbrev pub seat_seen : (F → ℕ) → TableId → View F → SeatSeen F
  seat_seen rows table (view.Seat p) = place_seen (rows p.terms.plan) table p
  seat_seen rows table v = no_seat table

  module _ {W : Type 0} where
    -- the plain fields of a seat agree with what it knows; while it has the turn it has the slot
    pub record IsPlace (number spare : ℕ) (p : Place F) (slots : List (ℕ × Slot W)) : Type 0 where
      pub number_is : number ≡ p.number
      pub spare_is : spare ≡ p.spare
      pub in_range : p.number + p.spare < 2 ^ 32
      pub no_olds : p.olds ≡ []
      pub slots_are : slots ≡ cond p.holds ((0, None) ∷ []) []

    abbrev pub IsSeatWith : ℕ → ℕ → View F → List (ℕ × Slot W) → Type 0
    IsSeatWith number spare (view.Seat p) slots = IsPlace number spare p slots
    IsSeatWith number spare v slots = ⊥

    abbrev pub IsSeat : ℕ → ℕ → Holder F W → Type 0
    IsSeat number spare me = IsSeatWith number spare me.0 me.1

  -- the seat was made on this board, whose room is a 32-bit number, and doesn't hold the turn
  pub record IsReady (board : TableId) (seat : SeatSeen F) : Type 0 where
    pub table : seat.table ≡ board
    pub room : seat.room < 2 ^ 32
    pub turn : seat.holds ≡ false

  -- the seat that `start` makes
  abbrev pub first_seat : TableId → F → ℕ → ℕ → ℕ → SeatSeen F
  first_seat board plan rows room callers =
      record (no_seat board) {
        plan = Some plan;
        rows = rows;
        room = room;
        callers = callers;
        spare = callers - 1;
      }

  -- the seat that `share` makes: it has the last of the numbers that the old one may give
  abbrev pub new_seat : SeatSeen F → SeatSeen F
  new_seat seat =
      record seat {
        number = seat.number + seat.spare;
        spare = 0;
        mine = [];
        taken = [];
        won = 0;
        missed = 0;
        holds = false;
      }

  -- what no call but `share` changes
  pub record IsSameSeat (old new : SeatSeen F) : Type 0 where
    pub table : new.table ≡ old.table
    pub plan : new.plan ≡ old.plan
    pub rows : new.rows ≡ old.rows
    pub room : new.room ≡ old.room
    pub callers : new.callers ≡ old.callers
    pub number : new.number ≡ old.number
    pub spare : new.spare ≡ old.spare
