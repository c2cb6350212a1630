-- A fold whose names are known and that passes no limit is within the limits once its names are resolved.
use Rattle.std.proofs.Common.{◌≡◌, ℕ, false, List, [], ◌∷◌, ◌++◌, map, length}
use Rattle.std.proofs.Common.{Option, refl, inl, inr, true, arith}
use Rattle.std.specs.Option.{option_or}
use Rattle.std.specs.List.{list_any, flat_map}
use Rattle.std.specs.Str.{bytes_eq}
use Rattle.std.proofs.lemmas.Bool.{cases_Bool, ltb-false, not-false}
use Rattle.std.proofs.lemmas.List.{length-map}
use Rattle.gta_spec.specs.declared.limits.TheConstants.{ATOM_LIMIT, CASE_LIMIT}
use Rattle.gta_spec.specs.Parts.{PickTree, TableTree, KindTree, Columns, Labels, Measure, Table, Times, Automaton}
use Rattle.gta_spec.specs.Parts.{Step, Generate, Test, Named, Keep, Aggregate, Fold, PartTree}
use Rattle.gta_spec.specs.WellFormed.{EachFits}
use Rattle.gta_checked.specs.Plain.{NamedTable}
use Rattle.gta_checked.specs.Within.{IsFoldWithin}
use Rattle.spec_rules.specs.SpecRules.{first_answer, is_longer, pick_conditions}
use Rattle.spec_tables.specs.Tables.{number_of, table_parts, tables_in, named_table}
use Rattle.gta_types.specs.declared.declaring.InnerKind.TheVariants.{Element}
use Rattle.gta_types.specs.declared.declaring.NameKind.TheVariants.{ATable}
use Rattle.gta_types.specs.Names.{Within, uses_of_pick, uses_of_test, declared_as, is_of}
use Rattle.gta_types.specs.Names.{inner_names, listed, names_within}
use Rattle.gta_types.specs.Resolved.{TableNames, table_names, environment, elements_in, resolved_pick}
use Rattle.gta_types.proofs.InRange.{table_in}
use Rattle.gta_types.proofs.Inner.{accepted_within, picks_within}
use Rattle.gta_types.proofs.Tables.{table_size-elements}
use Rattle.gta_types.proofs.Within.{Known, column_count, label_count, each_front, each_back}

-- the first line that declares a table of a name has the elements of the first table of the name
one_line : (x : List ℕ) (kind : KindTree) (o : Option (List (List ℕ))) (tables : List TableTree)
    → listed o ≡ elements_in (map table_names tables) x
    → listed (option_or (inner_names Element kind x) o) ≡ elements_in (map table_names (table_parts kind ++ tables)) x
one_line x (Columns items) o tables rest = rest
one_line x (Labels xs) o tables rest = rest
one_line x (Measure part) o tables rest = rest
one_line x (Table part) o tables rest =
    elim (cases_Bool (bytes_eq part.name x)) [
      | inl h ↦ rw h refl
      | inr h ↦ rw h rest
    ]
one_line x (Times part) o tables rest = rest
one_line x (Automaton part) o tables rest = rest
one_line x (Step part) o tables rest = rest
one_line x (Generate shape) o tables rest = rest
one_line x (Test test) o tables rest = rest
one_line x (Named name test) o tables rest = rest
one_line x (Keep keep) o tables rest = rest
one_line x (Aggregate goal) o tables rest = rest

first_elements : (x : List ℕ) (before parts : List PartTree)
    → listed (first_answer (λ (before : List PartTree) (part : PartTree). inner_names Element part.kind x) before parts)
    ≡ elements_in (map table_names (tables_in parts)) x
first_elements x before [] = refl
first_elements x before (part ∷ parts) =
    one_line x part.kind _ (tables_in parts) (first_elements x (before ++ part ∷ []) parts)

names_within-elements_in : (parts : List PartTree) (x : List ℕ)
    → names_within Element parts x ≡ elements_in (environment parts).tables x
names_within-elements_in parts x = first_elements x [] parts

-- the elements of the first table of a name
abbrev elements : List PartTree → List ℕ → List (List ℕ)
elements all table = elements_in (environment all).tables table

-- the tables of these lines
abbrev pub tables_of : List PartTree → List NamedTable
tables_of all = map (named_table all) (tables_in all)

pub fold_within : (all : List PartTree) (line : ℕ) (table : List ℕ) (picks : List PickTree) (accept : List (List ℕ))
    → is_longer CASE_LIMIT picks ≡ false → list_any (is_longer ATOM_LIMIT) (pick_conditions picks) ≡ false
    → EachFits (Known all) (uses_of_test line (Fold table picks accept))
    → IsFoldWithin (column_count all) (label_count all) (tables_of all)
    (number_of (map (λ (t : TableNames). t.name) (environment all).tables) table)
    (map (resolved_pick (environment all) (elements all table)) picks)
    (map (number_of (elements all table)) accept)
fold_within all line table picks accept few atoms known =
    let is : is_of ATable (declared_as all table) ≡ true = not-false _ known.0 in
    let size = table_size-elements all (tables_in all) table in
    let names = names_within-elements_in all table in
    record {
      declared = (let below = table_in all table is in
          let a = length-map (tables_in all) table_names in
          let b = length-map (map table_names (tables_in all)) (λ (t : TableNames). t.name) in
          let c = length-map (tables_in all) (named_table all) in omega (arith, below, a, b, c));
      few_picks = (let l = length-map picks (resolved_pick (environment all) (elements all table)) in
          let f = ltb-false CASE_LIMIT (length picks) few in omega (arith, l, f));
      each_pick = rw size (picks_within all line Element table is (elements all table) names picks atoms
          (each_front (Known all) (flat_map (uses_of_pick line (Within Element table)) picks) _ known.1));
      accepted = rw size (accepted_within all line Element table is (elements all table) names accept
          (each_back (Known all) (flat_map (uses_of_pick line (Within Element table)) picks) _ known.1));
    }
