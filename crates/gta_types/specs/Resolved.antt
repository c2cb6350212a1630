-- A specification with each name replaced by its number.
use Rattle.std.specs.Prelude.{◌≡◌, ℕ, Bool, true, false, ℤ, pos, neg_ℤ, List, [], ◌∷◌, ◌++◌, map}
use Rattle.std.specs.Prelude.{length, Option, Some, None}
use Rattle.std.specs.Prelude.{option_map}
use Rattle.std.specs.Str.{bytes_eq}
use Rattle.std.specs.List.{find, flat_map, range_with_len}
use Rattle.shape_gen.specs.declared.shape.Shape.{Shape}
use Rattle.gta_spec.specs.declared.parts.AtomPart.{AtomPart}
use Rattle.gta_spec.specs.declared.parts.AtomPart.TheVariants as atom_parts
use Rattle.gta_spec.specs.declared.parts.ColumnItem.{ColumnItem}
use Rattle.gta_spec.specs.declared.parts.GoalPart.{GoalPart}
use Rattle.gta_spec.specs.declared.parts.GoalPart.TheVariants as goal_parts
use Rattle.gta_spec.specs.declared.parts.RankPart.{RankPart}
use Rattle.gta_spec.specs.declared.parts.TermPart.{TermPart}
use Rattle.gta_spec.specs.Parts.{CaseTree, TableTree, AutomatonTree, PickTree, TestTree, Sum, Length, Fold, Run}
use Rattle.gta_spec.specs.Parts.{KindTree, Columns, Labels, Measure}
use Rattle.gta_spec.specs.Parts.{Generate, Test, Named, Keep, Aggregate, PartTree, SpecTree}
use Rattle.gta_spec.specs.Keep.{KeepTree, keep_map}
use Rattle.gta_checked.specs.declared.resolved.Term.{Term}
use Rattle.gta_checked.specs.declared.resolved.Atom.{Atom}
use Rattle.gta_checked.specs.declared.resolved.Atom.TheVariants as atoms
use Rattle.gta_checked.specs.declared.resolved.Goal.{Goal}
use Rattle.gta_checked.specs.declared.resolved.Goal.TheVariants as goals
use Rattle.gta_checked.specs.declared.resolved.Rank.{Rank}
use Rattle.gta_checked.specs.Plain.{PlainCase, PlainPick, PlainTest, PlainChecked}
use Rattle.gta_checked.specs.Plain as plain
use Rattle.spec_automata.specs.Automata.{automata_in, automaton_of}
use Rattle.spec_tables.specs.Tables.{number_of, tables_in, named_table}

abbrev pub column_items : KindTree → List ColumnItem
column_items (Columns items) = items
column_items _ = []

abbrev pub label_names : KindTree → List (List ℕ)
label_names (Labels names) = names
label_names _ = []

abbrev pub measure_names : KindTree → List (List ℕ)
measure_names (Measure part) = part.name ∷ []
measure_names _ = []

-- the name of a test, which is empty where it has none; no name is
abbrev pub test_names : KindTree → List (List ℕ)
test_names (Test test) = [] ∷ []
test_names (Named name test) = name ∷ []
test_names _ = []

-- a table's name, and the names of its elements
pub record TableNames : Type 0 where
  pub name : List ℕ
  pub elements : List (List ℕ)

abbrev pub table_names : TableTree → TableNames
table_names table = record { name = table.name; elements = table.elements }

-- an automaton's name, and the names of its states and letters
pub record AutomatonNames : Type 0 where
  pub name : List ℕ
  pub states : List (List ℕ)
  pub letters : List (List ℕ)

abbrev pub automaton_names : AutomatonTree → AutomatonNames
automaton_names automaton =
    record { name = automaton.name; states = automaton.states; letters = automaton.letters }

-- the declared names of a specification, each kind in its order
pub record Environment : Type 0 where
  pub columns : List (List ℕ)
  pub labels : List (List ℕ)
  pub measures : List (List ℕ)
  pub tables : List TableNames
  pub automata : List AutomatonNames
  pub tests : List (List ℕ)

abbrev pub environment : List PartTree → Environment
environment parts = record {
  columns = map (λ item. item.name) (flat_map (λ part. column_items part.kind) parts);
  labels = flat_map (λ part. label_names part.kind) parts;
  measures = flat_map (λ part. measure_names part.kind) parts;
  tables = map table_names (tables_in parts);
  automata = map automaton_names (automata_in parts);
  tests = flat_map (λ part. test_names part.kind) parts;
}

abbrev pub elements_listed : Option TableNames → List (List ℕ)
elements_listed None = []
elements_listed (Some table) = table.elements

-- the elements of the first table of a name
abbrev pub elements_in : List TableNames → List ℕ → List (List ℕ)
elements_in tables x = elements_listed (find (λ table. bytes_eq table.name x) tables)

abbrev pub states_listed : Option AutomatonNames → List (List ℕ)
states_listed None = []
states_listed (Some automaton) = automaton.states

abbrev pub letters_listed : Option AutomatonNames → List (List ℕ)
letters_listed None = []
letters_listed (Some automaton) = automaton.letters

-- the first automaton of a name
abbrev pub automaton_named : List AutomatonNames → List ℕ → Option AutomatonNames
automaton_named automata x = find (λ automaton. bytes_eq automaton.name x) automata

abbrev pub signed : Bool → ℕ → ℤ
signed true number = neg_ℤ (pos number)
signed false number = pos number

-- a number that isn't written is 1
abbrev pub factor_of : Option ℕ → ℕ
factor_of None = 1
factor_of (Some number) = number

abbrev pub resolved_term : Environment → TermPart → Term
resolved_term env term = record {
  factor = signed term.minus (factor_of term.number);
  column = option_map (number_of env.columns) term.name;
}

abbrev pub resolved_atom : Environment → AtomPart → Atom
resolved_atom env (atom_parts.Label x) = atoms.Label (number_of env.labels x)
resolved_atom env (atom_parts.Column x cmp number) = atoms.Column (number_of env.columns x) cmp number

abbrev pub resolved_case : Environment → CaseTree → PlainCase
resolved_case env case = record { form = map (resolved_term env) case.form; cond = map (resolved_atom env) case.cond }

abbrev pub resolved_pick : Environment → List (List ℕ) → PickTree → PlainPick
resolved_pick env elements pick = record {
  element = number_of elements pick.element;
  cond = map (resolved_atom env) pick.cond;
}

-- a column's name used as a measure, and after the columns the declared measures
abbrev pub number_of_weight : Environment → List ℕ → ℕ
number_of_weight env x = number_of (env.columns ++ env.measures) x

abbrev pub resolved_test : Environment → TestTree → PlainTest
resolved_test env (Sum x check) = plain.Sum (number_of_weight env x) check
resolved_test env (Length check) = plain.Length check
resolved_test env (Fold table picks accept) =
    plain.Fold (number_of (map (λ table. table.name) env.tables) table)
    (map (resolved_pick env (elements_in env.tables table)) picks)
    (map (number_of (elements_in env.tables table)) accept)
resolved_test env (Run automaton picks accept) =
    plain.Run (number_of (map (λ automaton. automaton.name) env.automata) automaton)
    (map (resolved_pick env (letters_listed (automaton_named env.automata automaton))) picks)
    (map (number_of (states_listed (automaton_named env.automata automaton))) accept)

abbrev pub resolved_rank : Environment → RankPart → Rank
resolved_rank env rank = record { greatest = rank.greatest; measure = number_of_weight env rank.name }

abbrev pub resolved_goal : Environment → GoalPart → Goal
resolved_goal env goal_parts.Count = goals.Count
resolved_goal env goal_parts.Any = goals.Any
resolved_goal env (goal_parts.Max x) = goals.Max (number_of_weight env x)
resolved_goal env (goal_parts.Min x) = goals.Min (number_of_weight env x)
resolved_goal env (goal_parts.Best k greatest x) = goals.Best k greatest (number_of_weight env x)
resolved_goal env (goal_parts.Ranked k keys) = goals.Ranked k (map (resolved_rank env) keys)

-- the measure of a column: its cell
abbrev pub column_measure : ℕ → List PlainCase
column_measure column = record { form = record { factor = pos 1; column = Some column } ∷ []; cond = [] } ∷ []

abbrev pub declared_measures : Environment → KindTree → List (List PlainCase)
declared_measures env (Measure part) = map (resolved_case env) part.cases ∷ []
declared_measures env _ = []

abbrev pub tests_of : Environment → KindTree → List PlainTest
tests_of env (Test test) = resolved_test env test ∷ []
tests_of env (Named name test) = resolved_test env test ∷ []
tests_of env _ = []

-- whether a test has a name
abbrev pub named_of : KindTree → List Bool
named_of (Test test) = false ∷ []
named_of (Named name test) = true ∷ []
named_of _ = []

-- the expression of a line `keep` over the numbers of its tests
abbrev pub keeps_of : Environment → KindTree → List (KeepTree ℕ)
keeps_of env (Keep keep) = keep_map (number_of env.tests) keep ∷ []
keeps_of env _ = []

-- the first of a list, where there is one
abbrev pub first_of : {A : Type 0} → List A → Option A
first_of [] = None
first_of (x ∷ xs) = Some x

abbrev pub shapes_of : KindTree → List Shape
shapes_of (Generate shape) = shape ∷ []
shapes_of _ = []

abbrev pub goals_of : Environment → KindTree → List Goal
goals_of env (Aggregate goal) = resolved_goal env goal ∷ []
goals_of env _ = []

-- a measure for each column, then the declared measures
abbrev pub measures_of : List PartTree → List (List PlainCase)
measures_of parts =
    map column_measure (range_with_len 0 (length (environment parts).columns))
    ++ flat_map (λ part. declared_measures (environment parts) part.kind) parts

-- the specification with its names resolved
pub record IsResolved (spec : SpecTree) (checked : PlainChecked) : Type 0 where
  pub version : checked.version ≡ spec.version
  pub columns : checked.columns ≡ flat_map (λ part. column_items part.kind) spec.parts
  pub labels : checked.labels ≡ (environment spec.parts).labels
  pub measures : checked.measures ≡ measures_of spec.parts
  pub tables : checked.tables ≡ map (named_table spec.parts) (tables_in spec.parts)
  pub automata : checked.automata ≡ map (automaton_of spec.parts) (automata_in spec.parts)
  pub tests : checked.tests ≡ flat_map (λ part. tests_of (environment spec.parts) part.kind) spec.parts
  pub named : checked.named ≡ flat_map (λ part. named_of part.kind) spec.parts
  pub keep : checked.keep ≡ first_of (flat_map (λ part. keeps_of (environment spec.parts) part.kind) spec.parts)
  pub shape : checked.shape ∷ [] ≡ flat_map (λ part. shapes_of part.kind) spec.parts
  pub goal : checked.goal ∷ [] ≡ flat_map (λ part. goals_of (environment spec.parts) part.kind) spec.parts
