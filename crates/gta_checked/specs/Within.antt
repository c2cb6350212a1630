-- The limits that every checked specification keeps: its numbers are declared, and its lists and numbers are not too
-- large.
use Rattle.std.specs.Prelude.{◌≡◌, ℕ, ◌+◌, ◌<◌, ◌≤◌, ◌↔◌, ℤ, pos, ◌≤ℤ◌, nat_abs, true, false, List, length, Option}
use Rattle.std.specs.Prelude.{Some, None, All}
use Rattle.gta_text.specs.declared.numbers.TheConstants.{NUMBER_BOUND}
use Rattle.shape_gen.specs.declared.shape.Shape.TheVariants.{Assign}
use Rattle.gta_spec.specs.declared.limits.TheConstants.{ATOM_LIMIT, AUTOMATON_LIMIT, BOUND_LIMIT, CASE_LIMIT}
use Rattle.gta_spec.specs.declared.limits.TheConstants.{COLUMN_LIMIT, FACTOR_LIMIT}
use Rattle.gta_spec.specs.declared.limits.TheConstants.{KEEP_LIMIT, LABEL_LIMIT, MEASURE_LIMIT, MODULUS_LIMIT}
use Rattle.gta_spec.specs.declared.limits.TheConstants.{RANK_LIMIT, TABLE_LIMIT, TERM_LIMIT, TEST_LIMIT}
use Rattle.gta_spec.specs.Versions.{is_version}
use Rattle.gta_spec.specs.declared.parts.Check.{Check}
use Rattle.gta_spec.specs.declared.parts.Check.TheVariants.{Compare, Mod}
use Rattle.gta_checked.specs.declared.resolved.Term.{Term}
use Rattle.gta_checked.specs.declared.resolved.Atom.{Atom}
use Rattle.gta_checked.specs.declared.resolved.Atom.TheVariants.{Label, Column}
use Rattle.gta_checked.specs.declared.resolved.Goal.{Goal}
use Rattle.gta_checked.specs.declared.resolved.Goal.TheVariants.{Count, Any, Max, Min, Best, Ranked}
use Rattle.gta_checked.specs.declared.resolved.Rank.{Rank}
use Rattle.gta_spec.specs.Keep.{KeepTree, kept_tests}
use Rattle.monoid_kit.specs.Table.{IsLawfulTable}
use Rattle.auto_monoid.specs.Auto.{PlainAuto, IsAuto}
use Rattle.auto_monoid.specs.Numbering.{are_too_many}
use Rattle.gta_checked.specs.Plain.{NamedTable, PlainCase, PlainPick, PlainTest, Sum, Length, Fold, Run, PlainChecked}
use Rattle.gta_checked.specs.Tables.{table_at, automaton_at}

-- a declared column has a factor, and a number is one that a specification can have
abbrev pub IsFactorWithin : ℕ → ℤ → Option ℕ → Type 0
IsFactorWithin columns factor None = nat_abs factor ≤ NUMBER_BOUND
IsFactorWithin columns factor (Some column) = (column < columns) × (nat_abs factor ≤ FACTOR_LIMIT)

abbrev pub IsTermWithin : ℕ → Term → Type 0
IsTermWithin columns term = IsFactorWithin columns term.factor term.column

abbrev pub IsAtomWithin : ℕ → ℕ → Atom → Type 0
IsAtomWithin columns labels (Label label) = label < labels
IsAtomWithin columns labels (Column column cmp number) = column < columns

abbrev pub IsConditionWithin : ℕ → ℕ → List Atom → Type 0
IsConditionWithin columns labels cond = (length cond ≤ ATOM_LIMIT) × All (IsAtomWithin columns labels) cond

pub record IsCaseWithin (columns labels : ℕ) (case : PlainCase) : Type 0 where
  pub few_terms : length case.form ≤ TERM_LIMIT
  pub terms : All (IsTermWithin columns) case.form
  pub condition : IsConditionWithin columns labels case.cond

abbrev pub IsMeasureWithin : ℕ → ℕ → List PlainCase → Type 0
IsMeasureWithin columns labels cases = (length cases ≤ CASE_LIMIT) × All (IsCaseWithin columns labels) cases

abbrev pub IsCheckWithin : Check → Type 0
IsCheckWithin (Compare cmp number) = (pos 0 ≤ℤ number) × (number ≤ℤ pos BOUND_LIMIT)
IsCheckWithin (Mod modulus residue) = (modulus ≤ MODULUS_LIMIT) × (residue < modulus)

-- as many names as the lawful table has elements
pub record IsTableWithin (table : NamedTable) : Type 0 where
  pub named : length table.elements ≡ table.products.size
  pub lawful : IsLawfulTable table.products

-- a table's number, and how many elements it has
abbrev pub table_size : List NamedTable → ℕ → ℕ
table_size tables table = (table_at tables table).products.size

abbrev pub IsPickWithin : ℕ → ℕ → ℕ → PlainPick → Type 0
IsPickWithin columns labels size pick = (pick.element < size) × IsConditionWithin columns labels pick.cond

-- the elements of a fold are those of its table
pub record IsFoldWithin (columns labels : ℕ) (tables : List NamedTable) (table : ℕ) (picks : List PlainPick)
    (accept : List ℕ) : Type 0 where
  pub declared : table < length tables
  pub few_picks : length picks ≤ CASE_LIMIT
  pub each_pick : All (IsPickWithin columns labels (table_size tables table)) picks
  pub accepted : All (λ element. element < table_size tables table) accept

-- an automaton with no more than 64 functions of words
pub record IsAutomatonWithin (automaton : PlainAuto) : Type 0 where
  pub is_auto : IsAuto automaton
  pub few : are_too_many automaton ≡ false

-- the letters and states of a run are those of its automaton
pub record IsRunWithin (columns labels : ℕ) (automata : List PlainAuto) (automaton : ℕ) (picks : List PlainPick)
    (accept : List ℕ) : Type 0 where
  pub declared : automaton < length automata
  pub few_picks : length picks ≤ CASE_LIMIT
  pub each_pick : All (IsPickWithin columns labels (automaton_at automata automaton).letters) picks
  pub accepted : All (λ state. state < (automaton_at automata automaton).states) accept

abbrev pub IsTestWithin : ℕ → ℕ → ℕ → List NamedTable → List PlainAuto → PlainTest → Type 0
IsTestWithin columns labels measures tables automata (Sum measure check) = (measure < measures) × IsCheckWithin check
IsTestWithin columns labels measures tables automata (Length check) = IsCheckWithin check
IsTestWithin columns labels measures tables automata (Fold table picks accept) =
    IsFoldWithin columns labels tables table picks accept
IsTestWithin columns labels measures tables automata (Run automaton picks accept) =
    IsRunWithin columns labels automata automaton picks accept

abbrev pub IsKeptWithin : Option ℕ → Type 0
IsKeptWithin None = Unit {0}
IsKeptWithin (Some k) = (1 ≤ k) × (k ≤ KEEP_LIMIT)

-- two or three measures
pub record AreRanksWithin (measures : ℕ) (keys : List Rank) : Type 0 where
  pub several : 2 ≤ length keys
  pub few : length keys ≤ RANK_LIMIT
  pub declared : All (λ rank. rank.measure < measures) keys

abbrev pub IsGoalWithin : ℕ → Goal → Type 0
IsGoalWithin measures Count = Unit {0}
IsGoalWithin measures Any = Unit {0}
IsGoalWithin measures (Max measure) = measure < measures
IsGoalWithin measures (Min measure) = measure < measures
IsGoalWithin measures (Best k greatest measure) = (1 ≤ k) × (k ≤ KEEP_LIMIT) × (measure < measures)
IsGoalWithin measures (Ranked k keys) = IsKeptWithin k × AreRanksWithin measures keys

-- an expression speaks of declared tests
abbrev pub IsKeepWithin : ℕ → Option (KeepTree ℕ) → Type 0
IsKeepWithin tests None = Unit {0}
IsKeepWithin tests (Some keep) = All (λ test. test < tests) (kept_tests keep)

pub record IsWithinLimits (checked : PlainChecked) : Type 0 where
  pub version : is_version checked.version ≡ true
  pub few_columns : length checked.columns ≤ COLUMN_LIMIT
  pub few_labels : length checked.labels ≤ LABEL_LIMIT
  -- assignments alone have labels
  pub assigned : (checked.shape ≡ Assign) ↔ (1 ≤ length checked.labels)
  pub few_measures : length checked.measures ≤ length checked.columns + MEASURE_LIMIT
  pub measures : All (IsMeasureWithin (length checked.columns) (length checked.labels)) checked.measures
  pub few_tables : length checked.tables ≤ TABLE_LIMIT
  pub tables : All IsTableWithin checked.tables
  pub few_automata : length checked.automata ≤ AUTOMATON_LIMIT
  pub automata : All IsAutomatonWithin checked.automata
  pub few_tests : length checked.tests ≤ TEST_LIMIT
  pub tests : All (IsTestWithin (length checked.columns) (length checked.labels) (length checked.measures)
      checked.tables checked.automata) checked.tests
  pub each_named : length checked.named ≡ length checked.tests
  pub keep : IsKeepWithin (length checked.tests) checked.keep
  pub goal : IsGoalWithin (length checked.measures) checked.goal
