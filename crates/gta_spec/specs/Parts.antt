-- The parts of a specification with lists in place of vectors, as the grammar speaks of them.
use Rattle.std.specs.Prelude.{ℕ, List, map}
use Rattle.shape_gen.specs.declared.shape.Shape.{Shape}
use Rattle.gta_spec.specs.declared.parts.ColumnItem.{ColumnItem}
use Rattle.gta_spec.specs.declared.parts.TermPart.{TermPart}
use Rattle.gta_spec.specs.declared.parts.AtomPart.{AtomPart}
use Rattle.gta_spec.specs.declared.parts.Check.{Check}
use Rattle.gta_spec.specs.declared.parts.KeepPart.{KeepPart}
use Rattle.gta_spec.specs.declared.parts.KeepPart.TheVariants as keeps
use Rattle.gta_spec.specs.declared.parts.GoalPart.{GoalPart}
use Rattle.gta_spec.specs.declared.parts.CasePart.{CasePart}
use Rattle.gta_spec.specs.declared.parts.MeasurePart.{MeasurePart}
use Rattle.gta_spec.specs.declared.parts.TablePart.{TablePart}
use Rattle.gta_spec.specs.declared.parts.TimesPart.{TimesPart}
use Rattle.gta_spec.specs.declared.parts.AutomatonPart.{AutomatonPart}
use Rattle.gta_spec.specs.declared.parts.StepPart.{StepPart}
use Rattle.gta_spec.specs.declared.parts.PickPart.{PickPart}
use Rattle.gta_spec.specs.declared.parts.TestPart.{TestPart}
use Rattle.gta_spec.specs.declared.parts.TestPart.TheVariants as tests
use Rattle.gta_spec.specs.declared.parts.PartKind.{PartKind}
use Rattle.gta_spec.specs.declared.parts.PartKind.TheVariants as kinds
use Rattle.gta_spec.specs.declared.parts.Part.{Part}
use Rattle.gta_spec.specs.declared.parts.Spec.{Spec}
use Rattle.gta_spec.specs.Keep as keep
use Rattle.gta_spec.specs.Keep.{KeepTree}

pub record CaseTree : Type 0 where
  pub form : List TermPart
  pub cond : List AtomPart

pub record MeasureTree : Type 0 where
  pub name : List ℕ
  pub cases : List CaseTree

pub record TableTree : Type 0 where
  pub name : List ℕ
  pub unit : List ℕ
  pub elements : List (List ℕ)

pub record TimesTree : Type 0 where
  pub table : List ℕ
  pub element : List ℕ
  pub products : List (List ℕ)

pub record AutomatonTree : Type 0 where
  pub name : List ℕ
  pub states : List (List ℕ)
  pub start : List ℕ
  pub letters : List (List ℕ)

pub record StepTree : Type 0 where
  pub automaton : List ℕ
  pub letter : List ℕ
  pub targets : List (List ℕ)

pub record PickTree : Type 0 where
  pub element : List ℕ
  pub cond : List AtomPart

pub data TestTree : Type 0 where
  Sum : List ℕ → Check → TestTree
  Length : Check → TestTree
  Fold : List ℕ → List PickTree → List (List ℕ) → TestTree
  Run : List ℕ → List PickTree → List (List ℕ) → TestTree

pub data KindTree : Type 0 where
  Columns : List ColumnItem → KindTree
  Labels : List (List ℕ) → KindTree
  Measure : MeasureTree → KindTree
  Table : TableTree → KindTree
  Times : TimesTree → KindTree
  Automaton : AutomatonTree → KindTree
  Step : StepTree → KindTree
  Generate : Shape → KindTree
  Test : TestTree → KindTree
  Named : List ℕ → TestTree → KindTree
  Keep : KeepTree (List ℕ) → KindTree
  Aggregate : GoalPart → KindTree

-- what the line with this number says
pub record PartTree : Type 0 where
  pub line : ℕ
  pub kind : KindTree

pub record SpecTree : Type 0 where
  pub version : ℕ
  pub parts : List PartTree

abbrev pub case_tree : CasePart → CaseTree
case_tree part = record { form = part.form.items; cond = part.cond.items }

abbrev pub measure_tree : MeasurePart → MeasureTree
measure_tree part = record { name = part.name; cases = map case_tree part.cases.items }

abbrev pub table_tree : TablePart → TableTree
table_tree part = record { name = part.name; unit = part.unit; elements = part.elements.items }

abbrev pub times_tree : TimesPart → TimesTree
times_tree part = record { table = part.table; element = part.element; products = part.products.items }

abbrev pub automaton_tree : AutomatonPart → AutomatonTree
automaton_tree part =
    record { name = part.name; states = part.states.items; start = part.start; letters = part.letters.items }

abbrev pub step_tree : StepPart → StepTree
step_tree part = record { automaton = part.automaton; letter = part.letter; targets = part.targets.items }

abbrev pub pick_tree : PickPart → PickTree
pick_tree part = record { element = part.element; cond = part.cond.items }

abbrev pub test_tree : TestPart → TestTree
test_tree (tests.Sum name check) = Sum name check
test_tree (tests.Length check) = Length check
test_tree (tests.Fold table picks accept) = Fold table (map pick_tree picks.items) accept.items
test_tree (tests.Run automaton picks accept) = Run automaton (map pick_tree picks.items) accept.items

abbrev pub keep_tree : KeepPart → KeepTree (List ℕ)
keep_tree (keeps.Test name) = keep.Test name
keep_tree (keeps.Not' p x) = keep.Not (keep_tree x)
keep_tree (keeps.Both' p x q y) = keep.Both (keep_tree x) (keep_tree y)
keep_tree (keeps.Either' p x q y) = keep.Either (keep_tree x) (keep_tree y)

abbrev pub kind_tree : PartKind → KindTree
kind_tree (kinds.Columns items) = Columns items.items
kind_tree (kinds.Labels names) = Labels names.items
kind_tree (kinds.Measure part) = Measure (measure_tree part)
kind_tree (kinds.Table part) = Table (table_tree part)
kind_tree (kinds.Times part) = Times (times_tree part)
kind_tree (kinds.Automaton part) = Automaton (automaton_tree part)
kind_tree (kinds.Step part) = Step (step_tree part)
kind_tree (kinds.Generate shape) = Generate shape
kind_tree (kinds.Test part) = Test (test_tree part)
kind_tree (kinds.Named name part) = Named name (test_tree part)
kind_tree (kinds.Keep part) = Keep (keep_tree part)
kind_tree (kinds.Aggregate part) = Aggregate part

abbrev pub part_tree : Part → PartTree
part_tree part = record { line = part.line; kind = kind_tree part.kind }

abbrev pub spec_tree : Spec → SpecTree
spec_tree spec = record { version = spec.version; parts = map part_tree spec.parts.items }
