-- What one step on the turn tells its caller.
use Rattle.std.specs.Prelude.{ℕ, ◌≡◌, ◌⊎◌, List, [], ◌∷◌, Some}
use Rattle.atomic_table.specs.Table.{Me, Step}
use Rattle.board_core.specs.Ordered.{Each}
use Rattle.board_core.specs.Board.{PlainBoard}
use Rattle.board_core.specs.Replay.{IsLegal, entries_of, claims_of}
use Rattle.board_table.specs.declared.view.Place.{Place}
use Rattle.board_table.specs.declared.view.View.{View}
use Rattle.board_table.specs.declared.view.View.TheVariants as view
use Rattle.board_table.specs.Views.{StartsWith, winner, loser, done, looked}
use Rattle.board_table.specs.Rule.{Slot, IsBoardFor}

-- a seat with the slots that it has taken
abbrev pub Holder : Type 0 → Type 0 → Type 0
Holder F W = Me (Slot W) (View F)

module _ {F W : Type 0} where
  module _ (rows : F → ℕ) (stands : F → ℕ → ℕ → W → Type 0) where
    -- the board that was at home as the seat won the turn
    pub record Finds (p : Place F) (b : PlainBoard W) : Type 0 where
      pub of_terms : IsBoardFor rows stands p.terms.plan p.terms.room b
      pub later : StartsWith b.log p.seen
      pub mine : entries_of p.number b.log ≡ p.mine
      pub taken : claims_of p.number b.log ≡ p.taken

    pub record WinsTurn (p : Place F) (after : Holder F W) : Type 0 where
      pub board : PlainBoard W
      pub finds : Finds p board
      pub seat : after ≡ (view.Seat (winner p board.log), (0, Some board) ∷ [])

    abbrev pub tried : View F → List (ℕ × Slot W) → ℕ → Holder F W → Type 0
    tried (view.Seat p) slots n after =
        ((n ≡ 0) × WinsTurn p after) ⊎ ((n ≡ 1) × (after ≡ (view.Seat (loser p), slots)))
    tried v slots n after = ⊥

    -- the word read 0 and the turn was won, or it read 1
    abbrev pub tries : Step (Slot W) → Holder F W → ℕ → Holder F W → Type 0
    tries step before n after = tried before.0 before.1 n after

  abbrev pub freed : View F → List (ℕ × Slot W) → Holder F W → Type 0
  freed (view.Seat p) ((k, Some board) ∷ []) after = after ≡ (view.Seat (done p board.log), [])
  freed v slots after = ⊥

  -- the turn is given up, and the slot goes home with the board in it
  abbrev pub frees : Step (Slot W) → Holder F W → ℕ → Holder F W → Type 0
  frees step before n after = freed before.0 before.1 after

  module _ (rows : F → ℕ) where
    -- what was taken in are beginnings of what is seen, which is legal
    pub record Looks (p : Place F) (after : Holder F W) (slots : List (ℕ × Slot W)) : Type 0 where
      pub olds : Each (λ old. StartsWith p.seen old) p.olds
      pub legal : IsLegal (rows p.terms.plan) p.terms.room p.seen
      pub seat : after ≡ (view.Seat (looked p), slots)

    abbrev pub looked_at : View F → List (ℕ × Slot W) → Holder F W → Type 0
    looked_at (view.Seat p) slots after = Looks p after slots
    looked_at v slots after = ⊥

    -- a load of the word
    abbrev pub looks : Step (Slot W) → Holder F W → ℕ → Holder F W → Type 0
    looks step before n after = looked_at before.0 before.1 after
