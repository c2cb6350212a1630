-- The lines of one automaton, and the states to which they say that its letters lead.
use Rattle.std.specs.Prelude.{ℕ, List, [], ◌∷◌, Option, if◌then◌else◌}
use Rattle.std.specs.List.{flat_map}
use Rattle.std.specs.Str.{bytes_eq}
use Rattle.gta_spec.specs.Parts.{AutomatonTree, KindTree, PartTree, Step, StepTree}
use Rattle.spec_tables.specs.Tables.{numbers_if, only_one}

abbrev pub line_of : List ℕ → KindTree → List StepTree
line_of automaton (Step part) = if bytes_eq part.automaton automaton then part ∷ [] else []
line_of automaton _ = []

-- the lines `step` of an automaton, in their order
abbrev pub lines_of : List PartTree → List ℕ → List StepTree
lines_of parts automaton = flat_map (λ part. line_of automaton part.kind) parts

abbrev pub targets_by : List ℕ → StepTree → List (List (List ℕ))
targets_by letter line = if bytes_eq line.letter letter then line.targets ∷ [] else []

-- the states to which lines of one automaton say that a letter leads
abbrev pub targets_for : List ℕ → List StepTree → List (List (List ℕ))
targets_for letter lines = flat_map (targets_by letter) lines

-- the numbers of the states to which lines of one automaton say that a letter leads, which has one of them
abbrev pub moves_on : List StepTree → AutomatonTree → List ℕ → Option (List ℕ)
moves_on lines automaton letter = numbers_if automaton.states (only_one (targets_for letter lines))
