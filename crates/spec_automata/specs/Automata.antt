-- The automata of a specification, with their states and letters by number.
use Rattle.std.specs.Prelude.{ℕ, ◌&&◌, List, [], ◌∷◌, length, Option, unwrap_or, if◌then◌else◌}
use Rattle.std.specs.List.{flat_map}
use Rattle.std.specs.Str.{bytes_eq}
use Rattle.auto_monoid.specs.Auto.{PlainAuto}
use Rattle.gta_spec.specs.Parts.{AutomatonTree, KindTree, Automaton, Step, PartTree}
use Rattle.spec_tables.specs.Tables.{number_of, numbers_if, only_one}

abbrev pub automaton_parts : KindTree → List AutomatonTree
automaton_parts (Automaton part) = part ∷ []
automaton_parts _ = []

-- the lines `automaton`, in their order
abbrev pub automata_in : List PartTree → List AutomatonTree
automata_in parts = flat_map (λ part. automaton_parts part.kind) parts

-- the states to which a line `step` says that a letter of an automaton leads
abbrev pub targets_on : List ℕ → List ℕ → KindTree → List (List (List ℕ))
targets_on automaton letter (Step part) =
    if bytes_eq part.automaton automaton && bytes_eq part.letter letter then part.targets ∷ [] else []
targets_on automaton letter _ = []

-- the states to which a letter leads, line by line
abbrev pub targets_of : List PartTree → List ℕ → List ℕ → List (List (List ℕ))
targets_of parts automaton letter = flat_map (λ part. targets_on automaton letter part.kind) parts

-- the numbers of the states to which a letter leads from each state, where it has one line, with as many states as
-- there are
abbrev pub moves_of : List PartTree → AutomatonTree → List ℕ → Option (List ℕ)
moves_of parts automaton letter =
    numbers_if automaton.states (only_one (targets_of parts automaton.name letter))

-- the automaton of a line, by numbers
abbrev pub automaton_of : List PartTree → AutomatonTree → PlainAuto
automaton_of parts automaton = record {
  states = length automaton.states;
  start = number_of automaton.states automaton.start;
  letters = length automaton.letters;
  moves = flat_map (λ letter. unwrap_or (moves_of parts automaton letter) []) automaton.letters;
}
