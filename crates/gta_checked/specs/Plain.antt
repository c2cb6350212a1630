-- A checked specification with lists in place of vectors, as definitions speak of it.
use Rattle.std.specs.Prelude.{ℕ, Bool, List, map, Option, option_map}
use Rattle.shape_gen.specs.declared.shape.Shape.{Shape}
use Rattle.monoid_kit.specs.Table.{PlainTable}
use Rattle.monoid_kit.specs.TableOf.{plain_table}
use Rattle.auto_monoid.specs.declared.monoid.AutoMonoid.{AutoMonoid}
use Rattle.auto_monoid.specs.Auto.{PlainAuto}
use Rattle.auto_monoid.specs.TransitionOf.{machine}
use Rattle.gta_spec.specs.declared.parts.Check.{Check}
use Rattle.gta_spec.specs.declared.parts.ColumnItem.{ColumnItem}
use Rattle.gta_checked.specs.declared.resolved.Term.{Term}
use Rattle.gta_checked.specs.declared.resolved.Atom.{Atom}
use Rattle.gta_checked.specs.declared.resolved.Case.{Case}
use Rattle.gta_checked.specs.declared.resolved.Measure.{Measure}
use Rattle.gta_checked.specs.declared.resolved.Pick.{Pick}
use Rattle.gta_checked.specs.declared.resolved.Table.{Table}
use Rattle.gta_checked.specs.declared.resolved.Test.{Test}
use Rattle.gta_checked.specs.declared.resolved.Test.TheVariants as tests
use Rattle.gta_checked.specs.declared.resolved.Keep.{Keep}
use Rattle.gta_checked.specs.declared.resolved.Keep.TheVariants as keeps
use Rattle.gta_checked.specs.declared.resolved.Goal.{Goal}
use Rattle.gta_spec.specs.Keep as keep
use Rattle.gta_spec.specs.Keep.{KeepTree}

-- a linear form, and the atoms of its condition
pub record PlainCase : Type 0 where
  pub form : List Term
  pub cond : List Atom

-- an element or a letter, and the atoms of its condition
pub record PlainPick : Type 0 where
  pub element : ℕ
  pub cond : List Atom

-- a table's name, the names of its elements, and the products of these by their numbers
pub record NamedTable : Type 0 where
  pub name : List ℕ
  pub elements : List (List ℕ)
  pub products : PlainTable

pub data PlainTest : Type 0 where
  Sum : ℕ → Check → PlainTest
  Length : Check → PlainTest
  Fold : ℕ → List PlainPick → List ℕ → PlainTest
  Run : ℕ → List PlainPick → List ℕ → PlainTest

-- a specification with its names resolved; a measure is the list of its cases
pub record PlainChecked : Type 0 where
  pub version : ℕ
  pub columns : List ColumnItem
  pub labels : List (List ℕ)
  pub measures : List (List PlainCase)
  pub tables : List NamedTable
  pub automata : List PlainAuto
  pub tests : List PlainTest
  -- whether each test has a name, and what those that have one must come to together
  pub named : List Bool
  pub keep : Option (KeepTree ℕ)
  pub shape : Shape
  pub goal : Goal

abbrev pub plain_case : Case → PlainCase
plain_case case = record { form = case.form.items; cond = case.cond.items }

abbrev pub plain_measure : Measure → List PlainCase
plain_measure measure = map plain_case measure.cases.items

abbrev pub plain_pick : Pick → PlainPick
plain_pick pick = record { element = pick.element; cond = pick.cond.items }

abbrev pub plain_named : Table → NamedTable
plain_named table = record {
  name = table.name;
  elements = table.elements.items;
  products = plain_table table.monoid;
}

abbrev pub plain_test : Test → PlainTest
plain_test (tests.Sum measure check) = Sum measure check
plain_test (tests.Length check) = Length check
plain_test (tests.Fold table picks accept) = Fold table (map plain_pick picks.items) accept.items
plain_test (tests.Run automaton picks accept) = Run automaton (map plain_pick picks.items) accept.items

abbrev pub plain_keep : Keep → KeepTree ℕ
plain_keep (keeps.Test test) = keep.Test test
plain_keep (keeps.Not' p x) = keep.Not (plain_keep x)
plain_keep (keeps.Both' p x q y) = keep.Both (plain_keep x) (plain_keep y)
plain_keep (keeps.Either' p x q y) = keep.Either (plain_keep x) (plain_keep y)

abbrev pub plain_keep_if : Option Keep → Option (KeepTree ℕ)
plain_keep_if keep = option_map plain_keep keep

abbrev pub plain_checked : ℕ → List ColumnItem → List (List ℕ) → List Measure → List Table → List AutoMonoid
    → List Test → List Bool → Option Keep → Shape → Goal → PlainChecked
plain_checked version columns labels measures tables automata tests named keep shape goal =
    record {
      version = version;
      columns = columns;
      labels = labels;
      measures = map plain_measure measures;
      tables = map plain_named tables;
      automata = map machine automata;
      tests = map plain_test tests;
      named = named;
      keep = plain_keep_if keep;
      shape = shape;
      goal = goal;
    }
