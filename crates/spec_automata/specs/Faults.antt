-- The faults of the automata of a specification.
use Rattle.std.specs.Prelude.{ℕ, not, List, [], ◌∷◌, map, Option, Some, None}
use Rattle.std.specs.Prelude.{is_some, option_map, Result, Ok, if◌then◌else◌}
use Rattle.std.specs.Option.{option_or}
use Rattle.std.specs.List.{find}
use Rattle.outcome_kit.specs.Outcome.{unless}
use Rattle.auto_monoid.specs.Auto.{PlainAuto}
use Rattle.auto_monoid.specs.Numbering.{are_too_many}
use Rattle.gta_spec.specs.Parts.{AutomatonTree, PartTree}
use Rattle.spec_automata.specs.declared.fault.AutomataFault.{AutomataFault}
use Rattle.spec_automata.specs.declared.fault.AutomataFault.TheVariants.{NotTotal, TooMany, Memory}
use Rattle.spec_automata.specs.Automata.{automata_in, automaton_of, moves_of}

-- the first answer that an automaton gets
abbrev pub first_of : (AutomatonTree → Option AutomataFault) → List AutomatonTree → Option AutomataFault
first_of ask [] = None
first_of ask (automaton ∷ others) = option_or (ask automaton) (first_of ask others)

-- the first letter that has no line `step`, more than one, or one with another number of states than there are
abbrev pub not_total_at : List PartTree → AutomatonTree → Option (List ℕ)
not_total_at parts automaton = find (λ letter. not (is_some (moves_of parts automaton letter))) automaton.letters

abbrev pub not_total : List PartTree → AutomatonTree → Option AutomataFault
not_total parts automaton = option_map (NotTotal automaton.name) (not_total_at parts automaton)

-- more than 64 functions are those of words
abbrev pub too_many : List PartTree → AutomatonTree → Option AutomataFault
too_many parts automaton =
    if are_too_many (automaton_of parts automaton) then Some (TooMany automaton.name) else None

-- the first automaton that isn't total, or else the first with too many functions
unfoldable pub automata_fault : List PartTree → Option AutomataFault
automata_fault parts =
    option_or (first_of (not_total parts) (automata_in parts)) (first_of (too_many parts) (automata_in parts))

-- the automata by numbers, unless there is a fault
abbrev pub automata_outcome : List PartTree → Result (List PlainAuto) AutomataFault
automata_outcome parts = unless (automata_fault parts) (Ok (map (automaton_of parts) (automata_in parts)))

-- the fault that an end tells of; want of memory is none
abbrev pub fault_in : AutomataFault → Option AutomataFault
fault_in Memory = None
fault_in fault = Some fault
