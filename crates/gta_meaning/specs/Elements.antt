-- Sets of elements as a flag for each element of a table, and of states alike, and which the tests accept.
use Rattle.std.specs.Prelude.{◌≡◌, ℕ, ◌<◌, Bool, false, ◌==◌, List, [], length, slice_index_or}
use Rattle.std.specs.List.{list_any}
use Rattle.gta_checked.specs.Plain.{PlainTest, Sum, Length, Fold, Run}

-- an element is in a set where its flag is up; one that has no flag is not
abbrev pub is_in : List Bool → ℕ → Bool
is_in set element = slice_index_or set element false

-- the elements of a set are those of a list
abbrev pub HasElements : List ℕ → List Bool → Type 0
HasElements elements set = (element : ℕ) → is_in set element ≡ list_any (λ one. one == element) elements

-- a set is what a test accepts of a table's elements, or of an automaton's states: none where the test is neither a
-- fold nor a run
abbrev pub IsAccepted : PlainTest → List Bool → Type 0
IsAccepted (Sum measure check) set = HasElements [] set
IsAccepted (Length check) set = HasElements [] set
IsAccepted (Fold table picks accept) set = HasElements accept set
IsAccepted (Run automaton picks accept) set = HasElements accept set

-- a set for each test, of what it accepts
pub record AreAccepted (tests : List PlainTest) (sets : List (List Bool)) : Type 0 where
  pub count : length sets ≡ length tests
  pub each : (k : ℕ) (test : PlainTest) (set : List Bool) → k < length tests
      → IsAccepted (slice_index_or tests k test) (slice_index_or sets k set)
