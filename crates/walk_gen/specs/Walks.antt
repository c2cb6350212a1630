-- The candidates of a generator that is written by states and moves.
use Rattle.std.specs.Prelude.{◌≡◌, ℕ, zero, suc, ◌+◌, ◌<◌, ◌≤◌, Bool, true, false, ◌&&◌, List, [], ◌∷◌, ◌++◌, map, length, All}
use Rattle.std.specs.Prelude.{Option, Some, None, nat_eq, slice_index_or, if◌then◌else◌}
use Rattle.std.specs.List.{flat_map}
use Rattle.shape_gen.specs.declared.mark.Mark.{Mark}
use Rattle.shape_gen.specs.Candidates.{mark}
use Rattle.walk_gen.specs.declared.walker.Move.{Move}
use Rattle.walk_gen.specs.declared.walker.Walker.{Walker}
use Rattle.walk_gen.specs.declared.walker.TheConstants.{STATE_LIMIT}

-- what a move takes of a row
abbrev pub taken : ℕ → Option ℕ → List Mark
taken row None = []
taken row (Some label) = mark row label ∷ []

-- what the moves from a state take of a row, each followed by each list of the state to which it leads, in the order
-- of the moves
abbrev pub moved : List Move → ℕ → (ℕ → List (List Mark)) → ℕ → List (List Mark)
moved moves row lists state =
    flat_map (λ move.
    if nat_eq move.from state then map (λ rest. taken row move.take ++ rest) (lists move.to) else []) moves

-- what a walk over no row takes: nothing, from an end
abbrev pub at_end : (ℕ → Bool) → ℕ → List (List Mark)
at_end ends state = if ends state then [] ∷ [] else []

-- what the walks from a state to an end take of count rows, from first on
abbrev pub walks : List Move → (ℕ → Bool) → ℕ → ℕ → ℕ → List (List Mark)
walks moves ends first zero state = at_end ends state
walks moves ends first (suc count) state = moved moves first (walks moves ends (first + 1) count) state

-- whether a state is an end
abbrev pub is_end : List Bool → ℕ → Bool
is_end ends state = slice_index_or ends state false

-- what the walks over n rows take, from the start to a state that is an end
abbrev pub candidates : Walker → ℕ → List (List Mark)
candidates walker n = walks walker.moves.items (is_end walker.ends.items) 0 n walker.start

-- the same for the walks from a state to one state over the rows from lo on
abbrev pub between : Walker → ℕ → ℕ → ℕ → ℕ → List (List Mark)
between walker from to lo count = walks walker.moves.items (nat_eq to) lo count from

-- a move between so many states
abbrev pub IsBetween : ℕ → Move → Type 0
IsBetween states move = (move.from < states) × (move.to < states)

-- whether both skip the row, or both take it with the same label
abbrev pub same_take : Option ℕ → Option ℕ → Bool
same_take None None = true
same_take (Some a) (Some b) = nat_eq a b
same_take _ _ = false

-- whether two moves leave one state with one effect
abbrev pub same_effect : Move → Move → Bool
same_effect a b = nat_eq a.from b.from && same_take a.take b.take

abbrev pub AreApart : List Move → Type 0
AreApart [] = Unit {0}
AreApart (move ∷ moves) = All (λ other. same_effect move other ≡ false) moves × AreApart moves

-- its states are few and in range, and no two moves leave a state with one effect
pub record IsWalker (walker : Walker) : Type 0 where
  pub some_states : 1 ≤ walker.states
  pub few_states : walker.states ≤ STATE_LIMIT
  pub start : walker.start < walker.states
  pub ends : length walker.ends.items ≡ walker.states
  pub moves : All (IsBetween walker.states) walker.moves.items
  pub apart : AreApart walker.moves.items
