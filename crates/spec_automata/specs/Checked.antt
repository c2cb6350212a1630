-- What the check of one automaton gives.
use Rattle.std.specs.Prelude.{◌≡◌, ℕ, ◌<◌, List, [], ◌∷◌, ◌++◌, length, slice_index_or, Result, Ok, Err}
use Rattle.std.specs.Prelude.{Option, Some, None, true, false}
use Rattle.auto_monoid.specs.declared.auto.Auto.{Auto}
use Rattle.auto_monoid.specs.Auto.{PlainAuto, IsAuto}
use Rattle.auto_monoid.specs.AutoOf.{plain_auto}
use Rattle.auto_monoid.specs.Numbering.{are_too_many}
use Rattle.gta_spec.specs.Parts.{AutomatonTree, PartTree}
use Rattle.spec_automata.specs.declared.fault.AutomataFault.{AutomataFault}
use Rattle.spec_automata.specs.declared.fault.AutomataFault.TheVariants.{TooMany}
use Rattle.spec_automata.specs.declared.moves.Moves.{Moves}
use Rattle.spec_automata.specs.declared.moves.Moves.TheVariants.{Total, NotAt}
use Rattle.spec_automata.specs.Automata.{automaton_of}
use Rattle.spec_automata.specs.Faults.{not_total, not_total_at}

-- the moves of a total automaton, or the number of the first letter that doesn't lead from each state
abbrev pub AreMoves : List PartTree → AutomatonTree → Moves → Type 0
AreMoves parts automaton (Total moves) =
    (not_total_at parts automaton ≡ None) × (moves.items ≡ (automaton_of parts automaton).moves)
AreMoves parts automaton (NotAt number) =
    (number < length automaton.letters)
    × (not_total_at parts automaton ≡ Some (slice_index_or automaton.letters number []))

-- the automaton by its numbers, or the fault that it isn't total
abbrev pub IsTotal : List PartTree → AutomatonTree → Result Auto AutomataFault → Type 0
IsTotal parts automaton (Ok auto) =
    (not_total parts automaton ≡ None) × (plain_auto auto ≡ automaton_of parts automaton) × IsAuto (plain_auto auto)
IsTotal parts automaton (Err fault) = not_total parts automaton ≡ Some fault

-- an automaton with a name comes after the old ones, or the fault that it has too many functions is told
abbrev pub WasAdded : List ℕ → PlainAuto → List PlainAuto → List PlainAuto → Option AutomataFault → Type 0
WasAdded name automaton old new None = (are_too_many automaton ≡ false) × (new ≡ old ++ automaton ∷ [])
WasAdded name automaton old new (Some fault) = (are_too_many automaton ≡ true) × (fault ≡ TooMany name)
