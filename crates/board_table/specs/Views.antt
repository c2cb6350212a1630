-- What seats and notes know: how it begins and changes.
use Rattle.std.specs.Prelude.{◌≡◌, ℕ, ◌+◌, ◌-◌, nat_le, false, true, cond, List, [], ◌∷◌, ◌++◌, length}
use Rattle.board_core.specs.declared.event.Logged.{Logged}
use Rattle.board_core.specs.Replay.{entries_of, claims_of}
use Rattle.board_table.specs.declared.view.Terms.{Terms}
use Rattle.board_table.specs.declared.view.Place.{Place}
use Rattle.board_table.specs.declared.view.Sheet.{Sheet}
use Rattle.board_table.specs.declared.view.View.{View}
use Rattle.board_table.specs.declared.view.View.TheVariants as view

-- the log is the seen one and what came after it
abbrev pub StartsWith : List Logged → List Logged → Type 0
StartsWith log seen = (rest : List Logged) × (log ≡ seen ++ rest)

abbrev pub longer : List Logged → List Logged → List Logged
longer seen other = cond (nat_le (length other) (length seen)) seen other

module _ {F : Type 0} where
  -- a seat that has called nothing
  abbrev pub fresh : Terms F → ℕ → ℕ → List Logged → Place F
  fresh terms number spare seen =
      record {
        terms = terms;
        number = number;
        spare = spare;
        seen = seen;
        olds = [];
        mine = [];
        taken = [];
        won = 0;
        missed = 0;
        holds = false;
      }

  -- after the step that won the turn, with the log of the board that was at home
  abbrev pub winner : Place F → List Logged → Place F
  winner p log = record p { seen = log; won = p.won + 1; holds = true }

  -- after a try that did not win it
  abbrev pub loser : Place F → Place F
  loser p = record p { missed = p.missed + 1 }

  -- after the step that gave it up, with the log of the board that went home
  abbrev pub done : Place F → List Logged → Place F
  done p log =
      record p {
        seen = log;
        mine = entries_of p.number log;
        taken = claims_of p.number log;
        holds = false;
      }

  abbrev pub sheet : Place F → Sheet F
  sheet p = record { terms = p.terms; seen = p.seen }

  -- a seat that gives its last number away, and the new seat that has it
  abbrev pub parent : Place F → Place F
  parent p = record p { spare = p.spare - 1 }

  abbrev pub child : Place F → Place F
  child p = fresh p.terms (p.number + p.spare) 0 p.seen

  abbrev pub parent_view : View F → View F
  parent_view (view.Seat p) = view.Seat (parent p)
  parent_view v = v

  abbrev pub child_view : View F → View F
  child_view (view.Seat p) = view.Seat (child p)
  child_view v = view.Spent

  abbrev pub same_view : View F → View F
  same_view v = v

  abbrev pub told_view : View F → View F
  told_view (view.Seat p) = view.Note (sheet p)
  told_view v = view.Spent

  -- a seat that met a note: it takes in both logs as they were
  abbrev pub joined : Place F → Sheet F → Place F
  joined p s = record p { seen = longer p.seen s.seen; olds = p.seen ∷ s.seen ∷ [] }

  abbrev pub joined_view : View F → View F → View F
  joined_view (view.Seat p) (view.Note s) = view.Seat (joined p s)
  joined_view v w = v

  abbrev pub spent_view : View F
  spent_view = view.Spent

  -- after a look
  abbrev pub looked : Place F → Place F
  looked p = record p { olds = [] }
