-- The declared names of a specification, as the code keeps them.
use Rattle.std.specs.Prelude.{◌≡◌, ◌≤◌, List, ◌++◌, map, length}
use Rattle.std.specs.Option.{option_or}
use Rattle.std.specs.List.{flat_map}
use Rattle.gta_spec.specs.declared.limits.TheConstants.{AUTOMATON_LIMIT, COLUMN_LIMIT, LABEL_LIMIT, MEASURE_LIMIT}
use Rattle.gta_spec.specs.declared.limits.TheConstants.{TEST_LIMIT}
use Rattle.gta_spec.specs.Parts.{KindTree, PartTree, automaton_tree}
use Rattle.gta_spec.specs.WellFormed.{EachFits}
use Rattle.gta_checked.specs.declared.resolved.Table.{Table}
use Rattle.gta_checked.specs.Plain.{plain_keep_if, plain_measure, plain_test}
use Rattle.gta_types.specs.declared.lists.Lists.{Lists}
use Rattle.gta_types.specs.declared.gathering.Gathered.{Gathered}
use Rattle.gta_types.specs.declared.drafting.Draft.{Draft}
use Rattle.spec_automata.specs.Automata.{automata_in, automaton_parts}
use Rattle.spec_automata.specs.Ready.{IsReadyAutomaton}
use Rattle.gta_types.specs.Resolved.{Environment, TableNames, environment, automaton_names, column_items}
use Rattle.gta_types.specs.Resolved.{label_names, measure_names}
use Rattle.gta_types.specs.Resolved.{declared_measures, first_of, goals_of, keeps_of, named_of, shapes_of}
use Rattle.gta_types.specs.Resolved.{test_names, tests_of}

-- a table's name, and the names of its elements
abbrev pub names_of : Table → TableNames
names_of table = record { name = table.name; elements = table.elements.items }

-- the environment that these lists stand for
abbrev pub environment_of : Lists → Environment
environment_of lists = record {
  columns = map (λ item. item.name) lists.columns.items;
  labels = lists.labels.items;
  measures = lists.measures.items;
  tables = map names_of lists.tables.items;
  automata = map (λ line. automaton_names (automaton_tree line.now)) lists.automata.items;
  tests = lists.tests.items;
}

-- the copies have one line's names more
pub record HasGatheredMore (kind : KindTree) (old new : Gathered) : Type 0 where
  pub columns : new.columns.items ≡ old.columns.items ++ column_items kind
  pub labels : new.labels.items ≡ old.labels.items ++ label_names kind
  pub measures : new.measures.items ≡ old.measures.items ++ measure_names kind
  pub automata : map (λ line. automaton_tree line.now) new.automata.items
      ≡ map (λ line. automaton_tree line.now) old.automata.items ++ automaton_parts kind
  pub tests : new.tests.items ≡ old.tests.items ++ test_names kind

-- the copies have the names of these lines
pub record HasGathered (parts : List PartTree) (gathered : Gathered) : Type 0 where
  pub columns : gathered.columns.items ≡ flat_map (λ part. column_items part.kind) parts
  pub labels : gathered.labels.items ≡ flat_map (λ part. label_names part.kind) parts
  pub measures : gathered.measures.items ≡ flat_map (λ part. measure_names part.kind) parts
  pub automata : map (λ line. automaton_tree line.now) gathered.automata.items ≡ automata_in parts
  pub tests : gathered.tests.items ≡ flat_map (λ part. test_names part.kind) parts

-- the names of these lines are no more than there may be, within automata, too
pub record HasFewNames (parts : List PartTree) : Type 0 where
  pub columns : length (flat_map (λ part. column_items part.kind) parts) ≤ COLUMN_LIMIT
  pub labels : length (environment parts).labels ≤ LABEL_LIMIT
  pub measures : length (environment parts).measures ≤ MEASURE_LIMIT
  pub automata : length (automata_in parts) ≤ AUTOMATON_LIMIT
  pub each_automaton : EachFits IsReadyAutomaton (automata_in parts)
  pub tests : length (environment parts).tests ≤ TEST_LIMIT

-- one line's share is drafted beside what was
pub record IsDraftedMore (env : Environment) (kind : KindTree) (old new : Draft) : Type 0 where
  pub measures : map plain_measure new.measures.items
      ≡ map plain_measure old.measures.items ++ declared_measures env kind
  pub tests : map plain_test new.tests.items ≡ map plain_test old.tests.items ++ tests_of env kind
  pub named : new.named.items ≡ old.named.items ++ named_of kind
  pub keep : plain_keep_if new.keep ≡ option_or (plain_keep_if old.keep) (first_of (keeps_of env kind))
  pub shapes : new.shapes.items ≡ old.shapes.items ++ shapes_of kind
  pub goals : new.goals.items ≡ old.goals.items ++ goals_of env kind

-- the shares of these lines are drafted
pub record IsDrafted (env : Environment) (parts : List PartTree) (old new : Draft) : Type 0 where
  pub measures : map plain_measure new.measures.items
      ≡ map plain_measure old.measures.items ++ flat_map (λ part. declared_measures env part.kind) parts
  pub tests : map plain_test new.tests.items
      ≡ map plain_test old.tests.items ++ flat_map (λ part. tests_of env part.kind) parts
  pub named : new.named.items ≡ old.named.items ++ flat_map (λ part. named_of part.kind) parts
  pub keep : plain_keep_if new.keep
      ≡ option_or (plain_keep_if old.keep) (first_of (flat_map (λ part. keeps_of env part.kind) parts))
  pub shapes : new.shapes.items ≡ old.shapes.items ++ flat_map (λ part. shapes_of part.kind) parts
  pub goals : new.goals.items ≡ old.goals.items ++ flat_map (λ part. goals_of env part.kind) parts
