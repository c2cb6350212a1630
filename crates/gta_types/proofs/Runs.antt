-- A run whose names are known and that passes no limit is within the limits once its names are resolved.
use Rattle.std.proofs.Common.{◌≡◌, ℕ, true, false, List, [], ◌∷◌, ◌++◌, map, length}
use Rattle.std.proofs.Common.{Option, refl, inl, inr, arith}
use Rattle.std.specs.Option.{option_or}
use Rattle.std.specs.List.{list_any, flat_map}
use Rattle.std.specs.Str.{bytes_eq}
use Rattle.std.proofs.lemmas.Bool.{cases_Bool, ltb-false, not-false}
use Rattle.std.proofs.lemmas.List.{length-map}
use Rattle.auto_monoid.specs.Auto.{PlainAuto}
use Rattle.gta_spec.specs.declared.limits.TheConstants.{ATOM_LIMIT, CASE_LIMIT}
use Rattle.gta_spec.specs.Parts.{PickTree, AutomatonTree, KindTree, Columns, Labels, Measure, Table, Times, Automaton}
use Rattle.gta_spec.specs.Parts.{Step, Generate, Test, Named, Keep, Aggregate, Run, PartTree}
use Rattle.gta_spec.specs.WellFormed.{EachFits}
use Rattle.gta_checked.specs.Within.{IsRunWithin}
use Rattle.spec_automata.specs.Automata.{automata_in, automaton_of, automaton_parts}
use Rattle.spec_rules.specs.SpecRules.{first_answer, is_longer, pick_conditions}
use Rattle.spec_tables.specs.Tables.{number_of}
use Rattle.gta_types.specs.declared.declaring.InnerKind.TheVariants.{State, Letter}
use Rattle.gta_types.specs.declared.declaring.NameKind.TheVariants.{AnAutomaton}
use Rattle.gta_types.specs.Names.{Within, uses_of_pick, uses_of_test, declared_as, is_of}
use Rattle.gta_types.specs.Names.{inner_names, listed}
use Rattle.gta_types.specs.Resolved.{AutomatonNames, automaton_names, automaton_named, environment, letters_listed}
use Rattle.gta_types.specs.Resolved.{resolved_pick, states_listed}
use Rattle.gta_types.proofs.Automata.{letters-size, states-size}
use Rattle.gta_types.proofs.InRange.{automaton_in}
use Rattle.gta_types.proofs.Inner.{accepted_within, picks_within}
use Rattle.gta_types.proofs.Within.{Known, column_count, label_count, each_front, each_back}

-- the first line that declares an automaton of a name has the states and letters of the first automaton of the name
line_states : (x : List ℕ) (kind : KindTree) (o : Option (List (List ℕ))) (automata : List AutomatonTree)
    → listed o ≡ states_listed (automaton_named (map automaton_names automata) x)
    → listed (option_or (inner_names State kind x) o)
    ≡ states_listed (automaton_named (map automaton_names (automaton_parts kind ++ automata)) x)
line_states x (Columns items) o automata rest = rest
line_states x (Labels xs) o automata rest = rest
line_states x (Measure part) o automata rest = rest
line_states x (Table part) o automata rest = rest
line_states x (Times part) o automata rest = rest
line_states x (Automaton part) o automata rest =
    elim (cases_Bool (bytes_eq part.name x)) [
      | inl h ↦ rw h refl
      | inr h ↦ rw h rest
    ]
line_states x (Step part) o automata rest = rest
line_states x (Generate shape) o automata rest = rest
line_states x (Test test) o automata rest = rest
line_states x (Named name test) o automata rest = rest
line_states x (Keep keep) o automata rest = rest
line_states x (Aggregate goal) o automata rest = rest

first_states : (x : List ℕ) (before parts : List PartTree)
    → listed (first_answer (λ (before : List PartTree) (part : PartTree). inner_names State part.kind x) before parts)
    ≡ states_listed (automaton_named (map automaton_names (automata_in parts)) x)
first_states x before [] = refl
first_states x before (part ∷ parts) =
    line_states x part.kind _ (automata_in parts) (first_states x (before ++ part ∷ []) parts)

line_letters : (x : List ℕ) (kind : KindTree) (o : Option (List (List ℕ))) (automata : List AutomatonTree)
    → listed o ≡ letters_listed (automaton_named (map automaton_names automata) x)
    → listed (option_or (inner_names Letter kind x) o)
    ≡ letters_listed (automaton_named (map automaton_names (automaton_parts kind ++ automata)) x)
line_letters x (Columns items) o automata rest = rest
line_letters x (Labels xs) o automata rest = rest
line_letters x (Measure part) o automata rest = rest
line_letters x (Table part) o automata rest = rest
line_letters x (Times part) o automata rest = rest
line_letters x (Automaton part) o automata rest =
    elim (cases_Bool (bytes_eq part.name x)) [
      | inl h ↦ rw h refl
      | inr h ↦ rw h rest
    ]
line_letters x (Step part) o automata rest = rest
line_letters x (Generate shape) o automata rest = rest
line_letters x (Test test) o automata rest = rest
line_letters x (Named name test) o automata rest = rest
line_letters x (Keep keep) o automata rest = rest
line_letters x (Aggregate goal) o automata rest = rest

first_letters : (x : List ℕ) (before parts : List PartTree)
    → listed (first_answer (λ (before : List PartTree) (part : PartTree). inner_names Letter part.kind x) before parts)
    ≡ letters_listed (automaton_named (map automaton_names (automata_in parts)) x)
first_letters x before [] = refl
first_letters x before (part ∷ parts) =
    line_letters x part.kind _ (automata_in parts) (first_letters x (before ++ part ∷ []) parts)

-- the states and letters of the first automaton of a name
abbrev states : List PartTree → List ℕ → List (List ℕ)
states all automaton = states_listed (automaton_named (environment all).automata automaton)

abbrev letters : List PartTree → List ℕ → List (List ℕ)
letters all automaton = letters_listed (automaton_named (environment all).automata automaton)

-- the automata of these lines
abbrev pub automata_of : List PartTree → List PlainAuto
automata_of all = map (automaton_of all) (automata_in all)

pub run_within : (all : List PartTree) (line : ℕ) (automaton : List ℕ) (picks : List PickTree)
    (accept : List (List ℕ)) → is_longer CASE_LIMIT picks ≡ false
    → list_any (is_longer ATOM_LIMIT) (pick_conditions picks) ≡ false
    → EachFits (Known all) (uses_of_test line (Run automaton picks accept))
    → IsRunWithin (column_count all) (label_count all) (automata_of all)
    (number_of (map (λ (a : AutomatonNames). a.name) (environment all).automata) automaton)
    (map (resolved_pick (environment all) (letters all automaton)) picks)
    (map (number_of (states all automaton)) accept)
run_within all line automaton picks accept few atoms known =
    let is : is_of AnAutomaton (declared_as all automaton) ≡ true = not-false _ known.0 in
    let picked = flat_map (uses_of_pick line (Within Letter automaton)) picks in
    record {
      declared = (let below = automaton_in all automaton is in
          let a = length-map (automata_in all) automaton_names in
          let b = length-map (map automaton_names (automata_in all)) (λ (a : AutomatonNames). a.name) in
          let c = length-map (automata_in all) (automaton_of all) in omega (arith, below, a, b, c));
      few_picks = (let l = length-map picks (resolved_pick (environment all) (letters all automaton)) in
          let f = ltb-false CASE_LIMIT (length picks) few in omega (arith, l, f));
      each_pick = rw (letters-size all (automata_in all) automaton)
          (picks_within all line Letter automaton is (letters all automaton) (first_letters automaton [] all) picks
          atoms (each_front (Known all) picked _ known.1));
      accepted = rw (states-size all (automata_in all) automaton)
          (accepted_within all line State automaton is (states all automaton) (first_states automaton [] all) accept
          (each_back (Known all) picked _ known.1));
    }
