-- The Board rule: what holds of the table between any two steps, whoever makes them.
use Rattle.std.specs.Prelude.{ℕ, ◌≡◌, ◌+◌, ◌-◌, ◌<◌, ◌≤◌, true, List, [], length, slice_index, Option, Some, None}
use mathlib.Core.Option.{some, none}
use lib.ListN.{get_elem?}
use Rattle.atomic_table.specs.Table.{State}
use Rattle.board_core.specs.declared.event.Logged.{Logged}
use Rattle.board_core.specs.Ordered.{Each}
use Rattle.board_core.specs.Board.{PlainBoard}
use Rattle.board_core.specs.Replay.{IsLegal, entries_of, claims_of}
use Rattle.board_core.specs.Sound.{IsSoundFor}
use Rattle.board_table.specs.declared.view.Terms.{Terms}
use Rattle.board_table.specs.declared.view.Place.{Place}
use Rattle.board_table.specs.declared.view.Sheet.{Sheet}
use Rattle.board_table.specs.declared.view.View.{View}
use Rattle.board_table.specs.declared.view.View.TheVariants as view
use Rattle.board_table.specs.declared.table.Opening.{Opening}
use Rattle.board_table.specs.Views.{StartsWith, fresh}

-- what the slot holds: the board, or nothing while a call has it
abbrev pub Slot : Type 0 → Type 0
Slot W = Option (PlainBoard W)

-- the one word is the turn, and the one slot is the board's place
abbrev pub TurnTable : Type 0 → Type 0 → Type 0
TurnTable F W = State (Slot W) (View F)

module _ {F : Type 0} where
  abbrev pub terms_of : Opening F → Terms F
  terms_of opening =
      record { plan = opening.plan.value; room = opening.room; callers = opening.callers }

  -- the seat of number 0, which may give all the others
  abbrev pub first_view : Opening F → View F
  first_view opening = view.Seat (fresh (terms_of opening) 0 (opening.callers - 1) [])

  module _ {W : Type 0} where
    abbrev pub IsAt : TurnTable F W → ℕ → View F → Type 0
    IsAt t i v = get_elem? t.views i ≡ some v

  -- what a seat at place i knows of the history. Of a caller's number, `owner` gives the place of
  -- the seat that has it or may give it; `holder` is the place of the seat that holds the turn.
  pub record PlaceFits (terms : Terms F) (owner : ℕ → ℕ) (holder : Option ℕ) (log : List Logged)
      (i : ℕ) (p : Place F) : Type 0 where
    pub terms_are : p.terms ≡ terms
    -- its own number and those that it may give are callers', and no other seat's
    pub numbers : p.number + p.spare < terms.callers
    pub owned : (n : ℕ) → p.number ≤ n → n ≤ p.number + p.spare → owner n ≡ i
    pub unused : (n : ℕ) → p.number < n → n ≤ p.number + p.spare
        → (entries_of n log ≡ []) × (claims_of n log ≡ [])
    -- what it saw are beginnings of the history
    pub seen : StartsWith log p.seen
    pub olds : Each (λ old. StartsWith log old × (length old ≤ length p.seen)) p.olds
    -- its entries and its open claims are those of its number in the history
    pub mine : entries_of p.number log ≡ p.mine
    pub mine_seen : entries_of p.number p.seen ≡ p.mine
    pub taken : claims_of p.number log ≡ p.taken
    -- who holds the turn saw the whole history
    pub turn : p.holds ≡ true → (holder ≡ Some i) × (p.seen ≡ log)

  pub record SheetFits (terms : Terms F) (log : List Logged) (s : Sheet F) : Type 0 where
    pub terms_are : s.terms ≡ terms
    pub seen : StartsWith log s.seen

  abbrev pub ViewFits : Terms F → (ℕ → ℕ) → Option ℕ → List Logged → ℕ → View F → Type 0
  ViewFits terms owner holder log i (view.Seat p) = PlaceFits terms owner holder log i p
  ViewFits terms owner holder log i (view.Note s) = SheetFits terms log s
  ViewFits terms owner holder log i view.Spent = Unit {0}

  module _ {W : Type 0} (rows : F → ℕ) (stands : F → ℕ → ℕ → W → Type 0) where
    -- a sound board for this plan, of its rows
    pub record IsBoardFor (plan : F) (room : ℕ) (b : PlainBoard W) : Type 0 where
      pub sound : IsSoundFor (stands plan) b
      pub rows_are : b.rows ≡ rows plan
      pub room_is : b.room ≡ room

    -- nobody has the turn, and the board at home has the history for its log
    pub record IsFree (terms : Terms F) (log : List Logged) (t : TurnTable F W) : Type 0 where
      pub word : slice_index t.words 0 ≡ 0
      pub board : PlainBoard W
      pub home : get_elem? t.homes 0 ≡ some (some (Some board))
      pub of_terms : IsBoardFor terms.plan terms.room board
      pub log_is : board.log ≡ log

    -- the seat at this place has the turn, and the slot with it
    pub record IsHeld (t : TurnTable F W) (i : ℕ) : Type 0 where
      pub word : slice_index t.words 0 ≡ 1
      pub out : get_elem? t.homes 0 ≡ some none
      pub place : Place F
      pub seat : IsAt t i (view.Seat place)
      pub holds : place.holds ≡ true

    abbrev pub TurnIs : Terms F → List Logged → TurnTable F W → Option ℕ → Type 0
    TurnIs terms log t None = IsFree terms log t
    TurnIs terms log t (Some i) = IsHeld t i

    pub record BoardRule (opening : Opening F) (t : TurnTable F W) : Type 0 where
      pub words : length t.words ≡ 1
      pub slots : length t.homes ≡ 1
      -- there is one history, and it is legal
      pub log : List Logged
      pub legal : IsLegal (rows opening.plan.value) opening.room log
      -- each of its entries is of a caller, so that the history of a new board is empty
      pub of_callers : Each (λ e. e.who < opening.callers) log
      pub owner : ℕ → ℕ
      pub holder : Option ℕ
      pub turn : TurnIs (terms_of opening) log t holder
      pub each : (i : ℕ) (v : View F) → IsAt t i v
          → ViewFits (terms_of opening) owner holder log i v
