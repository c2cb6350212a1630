-- The number of a name that is declared for its use is in range.
use Rattle.std.proofs.Common.{◌≡◌, ℕ, ◌<◌, Bool, true, false, ◌&&◌, ◌||◌, not, List, [], ◌∷◌, ◌++◌}
use Rattle.std.proofs.Common.{map, length, Some, cond, refl, sym, ap, ◌∙◌, inl, inr, subst, arith}
use Rattle.std.specs.Option.{option_or}
use Rattle.std.specs.List.{find, flat_map}
use Rattle.std.specs.Str.{bytes_eq}
use Rattle.std.proofs.lemmas.List.{map-append, length-append}
use Rattle.std.proofs.lemmas.List.Folds.{find-append}
use Rattle.std.proofs.lemmas.Simd.{map-map}
use Rattle.std.proofs.lemmas.Bool.{false≢true, cases_Bool, cases_lt, or_cases}
use Rattle.std.proofs.lemmas.Option.{none-some, same_Some}
use Rattle.gta_spec.specs.declared.parts.ColumnItem.{ColumnItem}
use Rattle.gta_spec.specs.Parts.{KindTree, Columns, Labels, Measure, Table, Times, Automaton, Step, Generate, Test}
use Rattle.gta_spec.specs.Parts.{AutomatonTree, Named, Keep, Aggregate, TableTree, PartTree}
use Rattle.spec_automata.specs.Automata.{automata_in, automaton_parts}
use Rattle.gta_types.specs.declared.declaring.NameKind.{NameKind}
use Rattle.gta_types.specs.declared.declaring.NameKind.TheVariants.{AColumn, ALabel, AMeasure, ATable, AnAutomaton}
use Rattle.gta_types.specs.declared.declaring.NameKind.TheVariants.{ATest}
use Rattle.gta_types.specs.Names.{Declaration, declare, declarations_of, declarations}
use Rattle.gta_types.specs.Names.{declaration_of, declared_as, is_inner, is_of, same_kind}
use Rattle.spec_tables.specs.Tables.{number_of, table_parts, tables_in}
use Rattle.gta_types.specs.Resolved.{column_items, label_names, measure_names, test_names}
use Rattle.gta_types.specs.Resolved.{AutomatonNames, TableNames, automaton_names, table_names, environment}
use Rattle.gta_types.proofs.Looked.{called, option_cases, line_of_map, table_hit, automaton_hit}
use Rattle.spec_tables.proofs.NumberOf.{number_of-append-past, number_of-append-within}

-- the number of x is one of these names
abbrev pub IsIn : List ℕ → List (List ℕ) → Type 0
IsIn x names = number_of names x < length names

pub in_front : (xs ys : List (List ℕ)) (x : List ℕ) → IsIn x xs → IsIn x (xs ++ ys)
in_front xs ys x within =
    let e = number_of-append-within xs ys x within in
    let l = length-append xs ys in omega arith

pub in_back : (xs ys : List (List ℕ)) (x : List ℕ) → IsIn x ys → IsIn x (xs ++ ys)
in_back xs ys x within =
    let l = length-append xs ys in
    elim (cases_lt (number_of xs x) (length xs)) [
      | inl h ↦ in_front xs ys x h
      | inr h ↦ (let e = number_of-append-past xs ys x h in omega arith)
    ]

module _ (K : NameKind) (g : KindTree → List (List ℕ)) (x : List ℕ)
    (here : (line : ℕ) (kind : KindTree) (d : Declaration) → find (called x) (declarations_of line kind) ≡ Some d
    → same_kind K d.kind ≡ true → IsIn x (g kind)) where
  found_in : (parts : List PartTree) (d : Declaration) → find (called x) (declarations parts) ≡ Some d
      → same_kind K d.kind ≡ true → IsIn x (flat_map (λ (part : PartTree). g part.kind) parts)
  found_in [] d e same = absurd (none-some d e)
  found_in (part ∷ parts) d e same =
      let ds = declarations_of part.line part.kind in
      let joined : option_or (find (called x) ds) (find (called x) (declarations parts)) ≡ Some d =
      sym (find-append (called x) ds (declarations parts)) ∙ e in
      let rest = flat_map (λ (part : PartTree). g part.kind) parts in
      elim (option_cases (find (called x) ds)) [
        | inl none ↦ in_back (g part.kind) rest x (found_in parts d (rw none at joined) same)
        | inr some ↦ (let found : some.0 ≡ d = same_Some _ _ (rw some.1 at joined) in
            in_front (g part.kind) rest x (here part.line part.kind d (some.1 ∙ ap Some found) same))
      ]

  pub declared_in : (parts : List PartTree) → is_of K (declared_as parts x) ≡ true
      → IsIn x (flat_map (λ (part : PartTree). g part.kind) parts)
  declared_in parts known =
      elim (option_cases (declaration_of (declarations parts) x)) [
        | inl none ↦ (let h : false ≡ true = rw none at known in absurd (false≢true h))
        | inr some ↦ found_in parts some.0 some.1 (rw some.1 at known)
      ]

named_in : {A : Type 0} (line : ℕ) (kind : NameKind) (f : A → List ℕ) (x : List ℕ) (xs : List A) (d : Declaration)
    → find (called x) (map (λ a. declare line kind (f a)) xs) ≡ Some d → IsIn x (map f xs)
named_in line kind f x [] d e = absurd (none-some d e)
named_in line kind f x (a ∷ xs) d e =
    elim (cases_Bool (bytes_eq (f a) x)) [
      | inl h ↦ rw h (omega arith)
      | inr h ↦ (let none : (not (is_inner kind) && bytes_eq (f a) x)
          ≡ false = rw h (and_false (not (is_inner kind))) in
          let rest = named_in line kind f x xs d (rw none at e) in rw h (omega arith))
    ]
  where
    and_false : (b : Bool) → (b && false) ≡ false
    and_false true = refl
    and_false false = refl

map_same : {A : Type 0} (xs : List A) → map (λ x. x) xs ≡ xs
map_same [] = refl
map_same (x ∷ xs) = ap (λ (ys : List _). x ∷ ys) (map_same xs)

other_kind : (K k d : NameKind) → d ≡ k → same_kind K k ≡ false → same_kind K d ≡ true → ⊥
other_kind K k d e differs same = false≢true (sym differs ∙ ap (same_kind K) (sym e) ∙ same)

-- a declaration of a table's line that is called x is the table's own, and one of an automaton's line the automaton's
table_line : (K : NameKind) (x : List ℕ) (line : ℕ) (part : TableTree) (d : Declaration)
    → find (called x) (declarations_of line (Table part)) ≡ Some d → same_kind K ATable ≡ false
    → same_kind K d.kind ≡ true → ⊥
table_line K x line part d e other same =
    other_kind K ATable d.kind
    (ap (λ (x : Declaration). x.kind) (sym (table_hit line part.name x part.elements d e).1)) other same

automaton_line : (K : NameKind) (x : List ℕ) (line : ℕ) (part : AutomatonTree) (d : Declaration)
    → find (called x) (declarations_of line (Automaton part)) ≡ Some d → same_kind K AnAutomaton ≡ false
    → same_kind K d.kind ≡ true → ⊥
automaton_line K x line part d e other same =
    other_kind K AnAutomaton d.kind
    (ap (λ (x : Declaration). x.kind) (sym (automaton_hit line part x d e).1)) other same

column_here : (x : List ℕ) (line : ℕ) (kind : KindTree) (d : Declaration)
    → find (called x) (declarations_of line kind) ≡ Some d → same_kind AColumn d.kind ≡ true
    → IsIn x (map (λ (item : ColumnItem). item.name) (column_items kind))
column_here x line (Columns items) d e same = named_in line AColumn (λ (item : ColumnItem). item.name) x items d e
column_here x line (Labels xs) d e same =
    absurd (other_kind AColumn ALabel d.kind (line_of_map (called x) line ALabel
    (λ (x : List ℕ). x) xs d e).1 refl same)
column_here x line (Measure part) d e same =
    absurd (other_kind AColumn AMeasure d.kind
    (line_of_map (called x) line AMeasure (λ (x : List ℕ). x) (part.name ∷ []) d e).1 refl same)
column_here x line (Table part) d e same = absurd (table_line AColumn x line part d e refl same)
column_here x line (Times part) d e same = absurd (none-some d e)
column_here x line (Automaton part) d e same = absurd (automaton_line AColumn x line part d e refl same)
column_here x line (Step part) d e same = absurd (none-some d e)
column_here x line (Generate shape) d e same = absurd (none-some d e)
column_here x line (Test test) d e same = absurd (none-some d e)
column_here x line (Named name test) d e same =
    absurd (other_kind AColumn ATest d.kind
    (line_of_map (called x) line ATest (λ (x : List ℕ). x) (name ∷ []) d e).1 refl same)
column_here x line (Keep keep) d e same = absurd (none-some d e)
column_here x line (Aggregate goal) d e same = absurd (none-some d e)

label_here : (x : List ℕ) (line : ℕ) (kind : KindTree) (d : Declaration)
    → find (called x) (declarations_of line kind) ≡ Some d → same_kind ALabel d.kind ≡ true → IsIn x (label_names kind)
label_here x line (Columns items) d e same =
    absurd (other_kind ALabel AColumn d.kind
    (line_of_map (called x) line AColumn (λ (item : ColumnItem). item.name) items d e).1 refl same)
label_here x line (Labels xs) d e same =
    subst (IsIn x) (map_same xs) (named_in line ALabel (λ (x : List ℕ). x) x xs d e)
label_here x line (Measure part) d e same =
    absurd (other_kind ALabel AMeasure d.kind
    (line_of_map (called x) line AMeasure (λ (x : List ℕ). x) (part.name ∷ []) d e).1 refl same)
label_here x line (Table part) d e same = absurd (table_line ALabel x line part d e refl same)
label_here x line (Times part) d e same = absurd (none-some d e)
label_here x line (Automaton part) d e same = absurd (automaton_line ALabel x line part d e refl same)
label_here x line (Step part) d e same = absurd (none-some d e)
label_here x line (Generate shape) d e same = absurd (none-some d e)
label_here x line (Test test) d e same = absurd (none-some d e)
label_here x line (Named name test) d e same =
    absurd (other_kind ALabel ATest d.kind
    (line_of_map (called x) line ATest (λ (x : List ℕ). x) (name ∷ []) d e).1 refl same)
label_here x line (Keep keep) d e same = absurd (none-some d e)
label_here x line (Aggregate goal) d e same = absurd (none-some d e)

measure_here : (x : List ℕ) (line : ℕ) (kind : KindTree) (d : Declaration)
    → find (called x) (declarations_of line kind) ≡ Some d → same_kind AMeasure d.kind ≡ true
    → IsIn x (measure_names kind)
measure_here x line (Columns items) d e same =
    absurd (other_kind AMeasure AColumn d.kind
    (line_of_map (called x) line AColumn (λ (item : ColumnItem). item.name) items d e).1 refl same)
measure_here x line (Labels xs) d e same =
    absurd (other_kind AMeasure ALabel d.kind (line_of_map (called x) line ALabel
    (λ (x : List ℕ). x) xs d e).1 refl same)
measure_here x line (Measure part) d e same =
    named_in line AMeasure (λ (x : List ℕ). x) x (part.name ∷ []) d e
measure_here x line (Table part) d e same = absurd (table_line AMeasure x line part d e refl same)
measure_here x line (Times part) d e same = absurd (none-some d e)
measure_here x line (Automaton part) d e same = absurd (automaton_line AMeasure x line part d e refl same)
measure_here x line (Step part) d e same = absurd (none-some d e)
measure_here x line (Generate shape) d e same = absurd (none-some d e)
measure_here x line (Test test) d e same = absurd (none-some d e)
measure_here x line (Named name test) d e same =
    absurd (other_kind AMeasure ATest d.kind
    (line_of_map (called x) line ATest (λ (x : List ℕ). x) (name ∷ []) d e).1 refl same)
measure_here x line (Keep keep) d e same = absurd (none-some d e)
measure_here x line (Aggregate goal) d e same = absurd (none-some d e)

table_here : (x : List ℕ) (line : ℕ) (kind : KindTree) (d : Declaration)
    → find (called x) (declarations_of line kind) ≡ Some d → same_kind ATable d.kind ≡ true
    → IsIn x (map (λ (table : TableTree). table.name) (table_parts kind))
table_here x line (Columns items) d e same =
    absurd (other_kind ATable AColumn d.kind
    (line_of_map (called x) line AColumn (λ (item : ColumnItem). item.name) items d e).1 refl same)
table_here x line (Labels xs) d e same =
    absurd (other_kind ATable ALabel d.kind (line_of_map (called x) line ALabel
    (λ (x : List ℕ). x) xs d e).1 refl same)
table_here x line (Measure part) d e same =
    absurd (other_kind ATable AMeasure d.kind
    (line_of_map (called x) line AMeasure (λ (x : List ℕ). x) (part.name ∷ []) d e).1 refl same)
table_here x line (Table part) d e same = rw (table_hit line part.name x part.elements d e).0 (omega arith)
table_here x line (Times part) d e same = absurd (none-some d e)
table_here x line (Automaton part) d e same = absurd (automaton_line ATable x line part d e refl same)
table_here x line (Step part) d e same = absurd (none-some d e)
table_here x line (Generate shape) d e same = absurd (none-some d e)
table_here x line (Test test) d e same = absurd (none-some d e)
table_here x line (Named name test) d e same =
    absurd (other_kind ATable ATest d.kind
    (line_of_map (called x) line ATest (λ (x : List ℕ). x) (name ∷ []) d e).1 refl same)
table_here x line (Keep keep) d e same = absurd (none-some d e)
table_here x line (Aggregate goal) d e same = absurd (none-some d e)

automaton_here : (x : List ℕ) (line : ℕ) (kind : KindTree) (d : Declaration)
    → find (called x) (declarations_of line kind) ≡ Some d → same_kind AnAutomaton d.kind ≡ true
    → IsIn x (map (λ (automaton : AutomatonTree). automaton.name) (automaton_parts kind))
automaton_here x line (Columns items) d e same =
    absurd (other_kind AnAutomaton AColumn d.kind
    (line_of_map (called x) line AColumn (λ (item : ColumnItem). item.name) items d e).1 refl same)
automaton_here x line (Labels xs) d e same =
    absurd (other_kind AnAutomaton ALabel d.kind (line_of_map (called x) line ALabel
    (λ (x : List ℕ). x) xs d e).1 refl same)
automaton_here x line (Measure part) d e same =
    absurd (other_kind AnAutomaton AMeasure d.kind
    (line_of_map (called x) line AMeasure (λ (x : List ℕ). x) (part.name ∷ []) d e).1 refl same)
automaton_here x line (Table part) d e same = absurd (table_line AnAutomaton x line part d e refl same)
automaton_here x line (Times part) d e same = absurd (none-some d e)
automaton_here x line (Automaton part) d e same = rw (automaton_hit line part x d e).0 (omega arith)
automaton_here x line (Step part) d e same = absurd (none-some d e)
automaton_here x line (Generate shape) d e same = absurd (none-some d e)
automaton_here x line (Test test) d e same = absurd (none-some d e)
automaton_here x line (Named name test) d e same =
    absurd (other_kind AnAutomaton ATest d.kind
    (line_of_map (called x) line ATest (λ (x : List ℕ). x) (name ∷ []) d e).1 refl same)
automaton_here x line (Keep keep) d e same = absurd (none-some d e)
automaton_here x line (Aggregate goal) d e same = absurd (none-some d e)

test_here : (x : List ℕ) (line : ℕ) (kind : KindTree) (d : Declaration)
    → find (called x) (declarations_of line kind) ≡ Some d → same_kind ATest d.kind ≡ true → IsIn x (test_names kind)
test_here x line (Columns items) d e same =
    absurd (other_kind ATest AColumn d.kind
    (line_of_map (called x) line AColumn (λ (item : ColumnItem). item.name) items d e).1 refl same)
test_here x line (Labels xs) d e same =
    absurd (other_kind ATest ALabel d.kind (line_of_map (called x) line ALabel
    (λ (x : List ℕ). x) xs d e).1 refl same)
test_here x line (Measure part) d e same =
    absurd (other_kind ATest AMeasure d.kind
    (line_of_map (called x) line AMeasure (λ (x : List ℕ). x) (part.name ∷ []) d e).1 refl same)
test_here x line (Table part) d e same = absurd (table_line ATest x line part d e refl same)
test_here x line (Times part) d e same = absurd (none-some d e)
test_here x line (Automaton part) d e same = absurd (automaton_line ATest x line part d e refl same)
test_here x line (Step part) d e same = absurd (none-some d e)
test_here x line (Generate shape) d e same = absurd (none-some d e)
test_here x line (Test test) d e same = absurd (none-some d e)
test_here x line (Named name test) d e same = named_in line ATest (λ (x : List ℕ). x) x (name ∷ []) d e
test_here x line (Keep keep) d e same = absurd (none-some d e)
test_here x line (Aggregate goal) d e same = absurd (none-some d e)

map-flat_map : {A B C : Type 0} (h : B → C) (f : A → List B) (xs : List A)
    → map h (flat_map f xs) ≡ flat_map (λ x. map h (f x)) xs
map-flat_map h f [] = refl
map-flat_map h f (x ∷ xs) = map-append h (f x) (flat_map f xs)
    ∙ ap (λ (ys : List _). map h (f x) ++ ys) (map-flat_map h f xs)

pub column_in : (parts : List PartTree) (x : List ℕ) → is_of AColumn (declared_as parts x) ≡ true
    → IsIn x (environment parts).columns
column_in parts x known =
    subst (IsIn x) (sym (map-flat_map (λ (item : ColumnItem). item.name)
    (λ (part : PartTree). column_items part.kind) parts))
    (declared_in AColumn (λ kind. map (λ (item : ColumnItem). item.name) (column_items kind)) x
    (column_here x) parts known)

pub label_in : (parts : List PartTree) (x : List ℕ) → is_of ALabel (declared_as parts x) ≡ true
    → IsIn x (environment parts).labels
label_in parts x known = declared_in ALabel label_names x (label_here x) parts known

pub table_in : (parts : List PartTree) (x : List ℕ) → is_of ATable (declared_as parts x) ≡ true
    → IsIn x (map (λ (table : TableNames). table.name) (environment parts).tables)
table_in parts x known =
    subst (IsIn x)
    (sym (map-map (λ (table : TableNames). table.name) table_names (tables_in parts)
    ∙ map-flat_map (λ (table : TableTree). table.name) (λ (part : PartTree). table_parts part.kind) parts))
    (declared_in ATable (λ kind. map (λ (table : TableTree). table.name) (table_parts kind)) x
    (table_here x) parts known)

pub automaton_in : (parts : List PartTree) (x : List ℕ) → is_of AnAutomaton (declared_as parts x) ≡ true
    → IsIn x (map (λ (automaton : AutomatonNames). automaton.name) (environment parts).automata)
automaton_in parts x known =
    subst (IsIn x)
    (sym (map-map (λ (automaton : AutomatonNames). automaton.name) automaton_names (automata_in parts)
    ∙ map-flat_map (λ (automaton : AutomatonTree). automaton.name)
    (λ (part : PartTree). automaton_parts part.kind) parts))
    (declared_in AnAutomaton (λ kind. map (λ (automaton : AutomatonTree). automaton.name) (automaton_parts kind)) x
    (automaton_here x) parts known)

pub weight_in : (parts : List PartTree) (x : List ℕ)
    → (is_of AColumn (declared_as parts x) || is_of AMeasure (declared_as parts x)) ≡ true
    → IsIn x ((environment parts).columns ++ (environment parts).measures)
weight_in parts x known =
    elim (or_cases _ _ known) [
      | inl h ↦ in_front (environment parts).columns (environment parts).measures x (column_in parts x h)
      | inr h ↦ in_back (environment parts).columns (environment parts).measures x
          (declared_in AMeasure measure_names x (measure_here x) parts h)
    ]

pub test_in : (parts : List PartTree) (x : List ℕ) → is_of ATest (declared_as parts x) ≡ true
    → IsIn x (environment parts).tests
test_in parts x known = declared_in ATest test_names x (test_here x) parts known
