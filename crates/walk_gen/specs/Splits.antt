-- Walks over adjoining rows: wherever the rows are cut, a walk is one over the earlier rows to some state, and one from
-- there over the later rows.
use Rattle.std.specs.Prelude.{ℕ, ◌+◌, ◌<◌, List, ◌++◌, map}
use Rattle.std.specs.List.{flat_map, range_with_len}
use Rattle.std.specs.List.Sorted.{IsPermutation}
use Rattle.shape_gen.specs.declared.mark.Mark.{Mark}
use Rattle.walk_gen.specs.declared.walker.Walker.{Walker}
use Rattle.walk_gen.specs.Walks.{IsWalker, between, candidates, is_end, walks}

-- every list of the first with every list of the second behind it
abbrev pub joints : List (List Mark) → List (List Mark) → List (List Mark)
joints cs ds = flat_map (λ c. map (λ d. c ++ d) ds) cs

-- what the walks between two states take of the rows before and behind a cut, by the state at the cut
abbrev pub by_the_state : Walker → ℕ → ℕ → ℕ → ℕ → ℕ → List (List Mark)
by_the_state walker from to lo earlier later =
    flat_map (λ middle.
    joints (between walker from middle lo earlier) (between walker middle to (lo + earlier) later))
    (range_with_len 0 walker.states)

-- wherever the rows are cut, what the walks between two states take is that, in another order
abbrev pub SplitsAnywhere : Type 0
SplitsAnywhere = (walker : Walker) → IsWalker walker → (from to lo earlier later : ℕ) → from < walker.states
    → IsPermutation (between walker from to lo (earlier + later)) (by_the_state walker from to lo earlier later)

-- the candidates are what the walks from the start take to the states that are ends, by these states
abbrev pub EndsAtEnds : Type 0
EndsAtEnds = (walker : Walker) → IsWalker walker → (n : ℕ)
    → IsPermutation (candidates walker n)
    (flat_map (λ end. joints (between walker walker.start end 0 n) (walks walker.moves.items
    (is_end walker.ends.items) n 0 end)) (range_with_len 0 walker.states))
