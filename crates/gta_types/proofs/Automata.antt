-- Automata by their numbers, and their states and letters by the automata's names.
use Rattle.std.proofs.Common.{◌≡◌, ℕ, ◌<◌, Bool, true, List, [], ◌∷◌, ◌++◌, map, take, drop, length, get_or, All}
use Rattle.std.proofs.Common.{Option, Some, None, false, ◌+◌, refl, sym, ap, ◌∙◌, inl, inr, subst, arith}
use Rattle.std.specs.List.{find}
use Rattle.std.specs.Option.{option_or}
use Rattle.std.specs.Str.{bytes_eq}
use Rattle.std.proofs.lemmas.Bool.{cases_Bool}
use Rattle.std.proofs.lemmas.List.{get_or-map, length-map, map-append}
use Rattle.std.proofs.lemmas.List.Elements.{All-nil, All-cons}
use Rattle.std.proofs.lemmas.List.Folds.{find-append}
use Rattle.auto_monoid.specs.Auto.{PlainAuto}
use Rattle.gta_spec.specs.Parts.{AutomatonTree, PartTree}
use Rattle.gta_spec.specs.WellFormed.{EachFits}
use Rattle.gta_checked.specs.Tables.{automaton_at, no_automaton}
use Rattle.spec_automata.specs.Automata.{automaton_of}
use Rattle.spec_tables.specs.Tables.{number_of}
use Rattle.spec_tables.proofs.Fronts.{split_at, take_next}
use Rattle.gta_types.specs.Resolved.{AutomatonNames, automaton_names, automaton_named, letters_listed, states_listed}
use Rattle.gta_types.proofs.Tables.{one_further}

-- as many letters as the automaton of the name has
pub letters-size : (parts : List PartTree) (trees : List AutomatonTree) (x : List ℕ)
    → (automaton_at (map (automaton_of parts) trees)
    (number_of (map (λ (a : AutomatonNames). a.name) (map automaton_names trees)) x)).letters
    ≡ length (letters_listed (automaton_named (map automaton_names trees) x))
letters-size parts [] x = refl
letters-size parts (tree ∷ trees) x =
    elim (cases_Bool (bytes_eq tree.name x)) [
      | inl h ↦ rw h refl
      | inr h ↦ (let n = number_of (map (λ (a : AutomatonNames). a.name) (map automaton_names trees)) x in
          rw h (ap (λ (a : PlainAuto). a.letters)
          (one_further (automaton_of parts tree) (map (automaton_of parts) trees) n no_automaton)
          ∙ letters-size parts trees x))
    ]

-- as many states as the automaton of the name has
pub states-size : (parts : List PartTree) (trees : List AutomatonTree) (x : List ℕ)
    → (automaton_at (map (automaton_of parts) trees)
    (number_of (map (λ (a : AutomatonNames). a.name) (map automaton_names trees)) x)).states
    ≡ length (states_listed (automaton_named (map automaton_names trees) x))
states-size parts [] x = refl
states-size parts (tree ∷ trees) x =
    elim (cases_Bool (bytes_eq tree.name x)) [
      | inl h ↦ rw h refl
      | inr h ↦ (let n = number_of (map (λ (a : AutomatonNames). a.name) (map automaton_names trees)) x in
          rw h (ap (λ (a : PlainAuto). a.states)
          (one_further (automaton_of parts tree) (map (automaton_of parts) trees) n no_automaton)
          ∙ states-size parts trees x))
    ]

pub all_of : {A : Type 0} (F : A → Type 0) (xs : List A) → EachFits F xs → All F xs
all_of F [] each = All-nil F
all_of F (x ∷ xs) each = All-cons F x xs each.0 (all_of F xs each.1)

-- the first automaton of a name, behind those that have another
module _ {A : Type 0} (f : A → AutomatonNames) (x : List ℕ) where
  abbrev named : AutomatonNames → Bool
  named a = bytes_eq a.name x

  pub named_here : (items : List A) (i : ℕ) (item : A) → i < length items → item ≡ get_or items i item
      → find named (map f (take i items)) ≡ None → bytes_eq (f item).name x ≡ true
      → automaton_named (map f items) x ≡ Some (f item)
  named_here items i item below is before here =
      ap (λ (xs : List A). find named (map f xs)) (split_at items i item below is)
      ∙ ap (find named) (map-append f (take i items) (item ∷ drop (i + 1) items))
      ∙ find-append named (map f (take i items)) (map f (item ∷ drop (i + 1) items))
      ∙ rw (before, here) refl

  pub none_named_more : (items : List A) (i : ℕ) (item : A) → i < length items → item ≡ get_or items i item
      → find named (map f (take i items)) ≡ None → bytes_eq (f item).name x ≡ false
      → find named (map f (take (i + 1) items)) ≡ None
  none_named_more items i item below is before other =
      ap (λ (xs : List A). find named (map f xs)) (take_next items i item below is)
      ∙ ap (find named) (map-append f (take i items) (item ∷ []))
      ∙ find-append named (map f (take i items)) (map f (item ∷ []))
      ∙ rw (before, other) refl

pub one_of_all : {A B : Type 0} (F : B → Type 0) (f : A → B) (items : List A) (i : ℕ) (item : A)
    → All F (map f items) → i < length items → item ≡ get_or items i item → F (f item)
one_of_all F f items i item all below is =
    let count = length-map items f in
    let at : F (get_or (map f items) i (f item)) = all i (f item) (omega (arith, below, count)) in
    subst F (get_or-map f items i item (f item) below ∙ ap f (sym is)) at
