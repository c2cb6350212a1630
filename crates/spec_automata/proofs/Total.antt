-- The moves of an automaton's letters, letter by letter.
use Rattle.std.proofs.Common.{◌≡◌, ℕ, ◌+◌, ◌*◌, ◌<◌, Bool, true, false, not, List, [], ◌∷◌, ◌++◌, length, get_or}
use Rattle.std.proofs.Common.{take, drop, All, Option, Some, None, refl, sym, ap, ◌∙◌, arith}
use Rattle.std.specs.Prelude.{is_some, unwrap_or}
use Rattle.std.specs.List.{find, flat_map}
use Rattle.std.proofs.lemmas.List.{get_or_default, length-append}
use Rattle.std.proofs.lemmas.List.Elements.{All-nil, All-append}
use Rattle.std.proofs.lemmas.Option.{none-some}
use Rattle.auto_monoid.specs.Auto.{PlainAuto, IsAuto}
use Rattle.gta_spec.specs.Parts.{PartTree, AutomatonTree}
use Rattle.spec_tables.specs.Tables.{number_of, only_one}
use Rattle.spec_tables.proofs.Fronts.{split_at, take_next}
use Rattle.spec_tables.proofs.Rows.{find_here, find_nowhere, flat_map_next, number_of-within, numbers_if-row}
use Rattle.spec_automata.specs.Automata.{automaton_of, moves_of, targets_of}
use Rattle.spec_automata.specs.Faults.{not_total_at}
use Rattle.spec_automata.specs.Ready.{IsReadyAutomaton}

by_test : {A : Type 0} (b : Bool) → (b ≡ true → A) → (b ≡ false → A) → A
by_test true t f = t refl
by_test false t f = f refl

module _ (parts : List PartTree) (automaton : AutomatonTree) where
  -- whether a letter doesn't lead from each state
  abbrev pub is_bad : List ℕ → Bool
  is_bad letter = not (is_some (moves_of parts automaton letter))

  -- the states to which some letters lead
  abbrev pub moves_by : List (List ℕ) → List ℕ
  moves_by letters = flat_map (λ letter. unwrap_or (moves_of parts automaton letter) []) letters

  -- one letter more
  module _ (i : ℕ) (letter : List ℕ) (below : i < length automaton.letters)
      (is : letter ≡ get_or automaton.letters i letter)
      (total : find is_bad (take i automaton.letters) ≡ None) where
    -- it has no moves
    pub not_total_here : moves_of parts automaton letter ≡ None
        → not_total_at parts automaton ≡ Some (get_or automaton.letters i [])
    not_total_here none =
        let bad : is_bad letter ≡ true = rw none refl in
        ap (find is_bad) (split_at automaton.letters i letter below is)
        ∙ find_here is_bad (take i automaton.letters) (drop (i + 1) automaton.letters) letter total bad
        ∙ ap Some (is ∙ get_or_default automaton.letters i letter [] below)

    -- it has some
    pub total_further : (moves : List ℕ) → moves_of parts automaton letter ≡ Some moves
        → find is_bad (take (i + 1) automaton.letters) ≡ None
    total_further moves there =
        let good : is_bad letter ≡ false = rw there refl in
        ap (find is_bad) (take_next automaton.letters i letter below is)
        ∙ find_nowhere is_bad (take i automaton.letters) letter total good

    pub moves_further : (moves so_far : List ℕ) → moves_of parts automaton letter ≡ Some moves
        → so_far ≡ moves_by (take i automaton.letters) → so_far ++ moves ≡ moves_by (take (i + 1) automaton.letters)
    moves_further moves so_far there so_far_is =
        let here : unwrap_or (moves_of parts automaton letter) [] ≡ moves = rw there refl in
        ap (λ xs. xs ++ moves) so_far_is
        ∙ ap (λ ys. moves_by (take i automaton.letters) ++ ys) (sym here)
        ∙ sym (flat_map_next (λ l. unwrap_or (moves_of parts automaton l) []) automaton.letters i letter below is)

  -- as many moves as there are states, and each to a state
  abbrev pub AreWhole : List ℕ → ℕ → Type 0
  AreWhole moves count = (length moves ≡ count) × All (λ state. state < length automaton.states) moves

  whole_moves : (moves : Option (List ℕ)) (letter : List ℕ) → moves_of parts automaton letter ≡ moves
      → is_bad letter ≡ false → AreWhole (unwrap_or moves []) (length automaton.states)
  whole_moves None letter is good = absurd (let h : true ≡ false = rw is at good in cc)
  whole_moves (Some moves) letter is good =
      numbers_if-row automaton.states (only_one (targets_of parts automaton.name letter)) moves is

  whole_letters : (letters : List (List ℕ)) → find is_bad letters ≡ None
      → AreWhole (moves_by letters) (length letters * length automaton.states)
  whole_letters [] total = (omega arith, All-nil (λ state. state < length automaton.states))
  whole_letters (l ∷ ls) total =
      by_test (is_bad l)
      (λ t. absurd (none-some l (let h : Some l ≡ None = rw t at total in sym h)))
      (λ f. let here = whole_moves (moves_of parts automaton l) l refl f in
      let rest = whole_letters ls (let r : find is_bad ls ≡ None = rw f at total in r) in
      let both = length-append (unwrap_or (moves_of parts automaton l) []) (moves_by ls) in (
        omega (arith, here.0, rest.0, both),
        All-append (λ state. state < length automaton.states) (unwrap_or (moves_of parts automaton l) [])
            (moves_by ls) here.1 rest.1,
      ))

  -- a total automaton of some states and letters, and not too many, that starts in one of its states
  pub total-IsAuto : IsReadyAutomaton automaton → not_total_at parts automaton ≡ None
      → IsAuto (automaton_of parts automaton)
  total-IsAuto ready total =
      let whole = whole_letters automaton.letters total in
      record {
        some_states = ready.some_states;
        few_states = ready.few_states;
        some_letters = ready.some_letters;
        few_letters = ready.few_letters;
        whole = whole.0;
        start_is_state = number_of-within automaton.states automaton.start ready.start;
        moves_are_states = whole.1;
      }

  pub auto_same : (states start letters : ℕ) (moves : List ℕ) → states ≡ length automaton.states
      → start ≡ number_of automaton.states automaton.start → letters ≡ length automaton.letters
      → moves ≡ (automaton_of parts automaton).moves
      → (let made : PlainAuto = record { states = states; start = start; letters = letters; moves = moves } in
      made ≡ automaton_of parts automaton)
  auto_same states start letters moves is_states is_start is_letters is_moves =
      rw (is_states, is_start, is_letters, is_moves) refl
