-- The lines of one automaton among all lines, and the states to which they say that its letters lead.
use Rattle.std.proofs.Common.{◌≡◌, ℕ, ◌+◌, ◌<◌, ◌&&◌, true, false, List, [], ◌∷◌, ◌++◌, map, length, take, drop}
use Rattle.std.proofs.Common.{get_or, cond, refl, ap, ◌∙◌}
use Rattle.std.specs.Str.{bytes_eq}
use Rattle.std.proofs.lemmas.List.{append-nil, map-append}
use Rattle.std.proofs.lemmas.Grind.{flat_map-append}
use Rattle.gta_spec.specs.Parts.{PartTree, StepTree, KindTree, Columns, Labels, Measure, Table, Times, Automaton}
use Rattle.gta_spec.specs.Parts.{Step, Generate, Test, Named, Keep, Aggregate, AutomatonTree}
use Rattle.spec_tables.specs.Tables.{numbers_if, only_one}
use Rattle.spec_tables.proofs.Fronts.{split_at}
use Rattle.spec_automata.specs.Automata.{moves_of, targets_of, targets_on}
use Rattle.spec_automata.specs.Lines.{line_of, lines_of, moves_on, targets_by, targets_for}

-- a line gives the same states among its automaton's as among all
of_one : (automaton letter : List ℕ) (kind : KindTree)
    → targets_for letter (line_of automaton kind) ≡ targets_on automaton letter kind
of_one automaton letter (Step part) =
    elim (bytes_eq part.automaton automaton) as (λ t. targets_for letter (cond t (part ∷ []) [])
    ≡ cond (t && bytes_eq part.letter letter) (part.targets ∷ []) []) [
      | true ↦ append-nil (targets_by letter part)
      | false ↦ refl
    ]
of_one automaton letter (Columns items) = refl
of_one automaton letter (Labels names) = refl
of_one automaton letter (Measure part) = refl
of_one automaton letter (Table part) = refl
of_one automaton letter (Times part) = refl
of_one automaton letter (Automaton part) = refl
of_one automaton letter (Generate shape) = refl
of_one automaton letter (Test test) = refl
of_one automaton letter (Named name test) = refl
of_one automaton letter (Keep keep) = refl
of_one automaton letter (Aggregate goal) = refl

targets_for-lines_of : (automaton letter : List ℕ) (parts : List PartTree)
    → targets_for letter (lines_of parts automaton) ≡ targets_of parts automaton letter
targets_for-lines_of automaton letter [] = refl
targets_for-lines_of automaton letter (part ∷ parts) =
    flat_map-append (targets_by letter) (line_of automaton part.kind) (lines_of parts automaton)
    ∙ rw (of_one automaton letter part.kind, targets_for-lines_of automaton letter parts) refl

-- a letter's moves on the lines of its automaton are its moves
pub moves_on-lines_of : (lines : List StepTree) (parts : List PartTree) (automaton : AutomatonTree) (letter : List ℕ)
    → lines ≡ lines_of parts automaton.name → moves_on lines automaton letter ≡ moves_of parts automaton letter
moves_on-lines_of lines parts automaton letter is =
    ap (λ (ps : List (List (List ℕ))). numbers_if automaton.states (only_one ps))
    (ap (targets_for letter) is ∙ targets_for-lines_of automaton.name letter parts)

module _ {A : Type 0} (tree : A → StepTree) (letter : List ℕ) (lines : List A) (i : ℕ) (d : A)
    (below : i < length lines) (is : d ≡ get_or lines i d) where
  -- the lines before a line, the line, and those behind it
  pub targets_for-split : targets_for letter (map tree lines)
      ≡ targets_for letter (map tree (take i lines))
      ++ (targets_by letter (tree d) ++ targets_for letter (map tree (drop (i + 1) lines)))
  targets_for-split =
      ap (λ (ls : List A). targets_for letter (map tree ls)) (split_at lines i d below is)
      ∙ ap (targets_for letter) (map-append tree (take i lines) (d ∷ drop (i + 1) lines))
      ∙ flat_map-append (targets_by letter) (map tree (take i lines)) (map tree (d ∷ drop (i + 1) lines))
