-- How a seat changes as it wins the turn, misses it, or gives it up.
use Rattle.std.specs.Prelude.{ℕ, ◌≡◌, ◌⊎◌, ◌+◌, true, false, List, [], ◌∷◌, ◌++◌, Option, IsSomeAnd}
use Rattle.board_core.specs.declared.event.Logged.{Logged}
use Rattle.board_core.specs.Board.{PlainBoard}
use Rattle.board_core.specs.Replay.{entries_of, claims_of}
use Rattle.board_table.specs.Views.{StartsWith}
use Rattle.board_table.specs.Rule.{IsBoardFor}
use Rattle.board_table.specs.Seen.{SeatSeen}

-- the log gained nothing, or one entry of this number
abbrev pub Grows : ℕ → List Logged → List Logged → Type 0
Grows who seen log = (log ≡ seen) ⊎ ((e : Logged) × (e.who ≡ who) × (log ≡ seen ++ e ∷ []))

module _ {F : Type 0} where
  -- a try that read 1: nothing else changed
  abbrev pub Misses : SeatSeen F → SeatSeen F → Type 0
  Misses old new = new ≡ record old { missed = old.missed + 1 }

  abbrev pub won_seat : SeatSeen F → List Logged → SeatSeen F
  won_seat old log = record old { seen = log; won = old.won + 1; holds = true }

  abbrev pub done_seat : SeatSeen F → List Logged → SeatSeen F
  done_seat old log =
      record old {
        seen = log;
        mine = entries_of old.number log;
        taken = claims_of old.number log;
        holds = false;
      }

  module _ {W : Type 0} (rows : F → ℕ) (stands : F → ℕ → ℕ → W → Type 0) where
    -- a sound board for the seat's plan
    abbrev pub IsBoardOf : Option F → ℕ → PlainBoard W → Type 0
    IsBoardOf plan room b = IsSomeAnd plan (λ plan. IsBoardFor rows stands plan room b)

    -- the turn was won, and b is the board that was at home
    pub record HasWon (old : SeatSeen F) (b : PlainBoard W) (new : SeatSeen F) : Type 0 where
      pub seat : new ≡ won_seat old b.log
      pub of_seat : IsBoardOf old.plan old.room b
      pub rows_are : b.rows ≡ old.rows
      pub later : StartsWith b.log old.seen
      pub mine : entries_of old.number b.log ≡ old.mine
      pub taken : claims_of old.number b.log ≡ old.taken

    -- the board that a seat with the turn may bring home
    pub record MayGoHome (seat : SeatSeen F) (b : PlainBoard W) : Type 0 where
      pub holds : seat.holds ≡ true
      pub of_seat : IsBoardOf seat.plan seat.room b
      pub grows : Grows seat.number seat.seen b.log
