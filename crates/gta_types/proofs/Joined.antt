-- The parts that are gathered and drafted are the specification with its names resolved.
use Rattle.std.proofs.Common.{◌≡◌, ℕ, Bool, List, [], ◌∷◌, ◌++◌, map, length, Option, None, refl, ap, ◌∙◌}
use Rattle.std.specs.Option.{option_or}
use Rattle.std.specs.List.{flat_map, range_with_len}
use Rattle.auto_monoid.specs.declared.monoid.AutoMonoid.{AutoMonoid}
use Rattle.auto_monoid.specs.TransitionOf.{machine}
use Rattle.shape_gen.specs.declared.shape.Shape.{Shape}
use Rattle.gta_spec.specs.Parts.{PartTree, SpecTree}
use Rattle.gta_checked.specs.declared.resolved.Goal.{Goal}
use Rattle.gta_checked.specs.declared.resolved.Keep.{Keep}
use Rattle.gta_checked.specs.declared.resolved.Test.{Test}
use Rattle.gta_checked.specs.Plain.{PlainCase, plain_keep_if, plain_measure, plain_named, plain_test, plain_checked}
use Rattle.spec_automata.specs.Automata.{automata_in, automaton_of}
use Rattle.spec_tables.specs.Tables.{named_table, tables_in}
use Rattle.gta_types.specs.declared.lists.Lists.{Lists}
use Rattle.gta_types.specs.declared.drafting.Draft.{Draft}
use Rattle.gta_types.specs.Resolved.{Environment, environment, column_items, column_measure}
use Rattle.gta_types.specs.Resolved.{declared_measures, first_of, keeps_of, named_of, tests_of, shapes_of, goals_of}
use Rattle.gta_types.specs.Resolved.{IsResolved}
use Rattle.gta_types.specs.Lists.{environment_of, IsDrafted}

-- a draft with the measures of the columns alone
pub record IsFresh (columns : ℕ) (draft : Draft) : Type 0 where
  pub measures : map plain_measure draft.measures.items ≡ map column_measure (range_with_len 0 columns)
  pub tests : draft.tests.items ≡ []
  pub named : draft.named.items ≡ []
  pub keep : draft.keep ≡ None
  pub shapes : draft.shapes.items ≡ []
  pub goals : draft.goals.items ≡ []

pub shapes_drafted : (env : Environment) (parts : List PartTree) (columns : ℕ) (old new : Draft) → IsFresh columns old
    → IsDrafted env parts old new → new.shapes.items ≡ flat_map (λ (part : PartTree). shapes_of part.kind) parts
shapes_drafted env parts columns old new fresh drafted =
    drafted.shapes ∙ ap (λ (xs : List Shape). xs ++ flat_map
    (λ (part : PartTree). shapes_of part.kind) parts) fresh.shapes

pub goals_drafted : (env : Environment) (parts : List PartTree) (columns : ℕ) (old new : Draft) → IsFresh columns old
    → env ≡ environment parts → IsDrafted env parts old new
    → new.goals.items ≡ flat_map (λ (part : PartTree). goals_of (environment parts) part.kind) parts
goals_drafted env parts columns old new fresh names drafted =
    drafted.goals
    ∙ ap (λ (xs : List Goal). xs ++ flat_map (λ (part : PartTree). goals_of env part.kind) parts) fresh.goals
    ∙ ap (λ (e : Environment). flat_map (λ (part : PartTree). goals_of e part.kind) parts) names

pub is_resolved : (spec : SpecTree) (lists : Lists) (automata : List AutoMonoid) (columns : ℕ) (old new : Draft)
    (shape : Shape) (goal : Goal)
    → environment_of lists ≡ environment spec.parts
    → lists.columns.items ≡ flat_map (λ (part : PartTree). column_items part.kind) spec.parts
    → columns ≡ length (environment spec.parts).columns
    → map plain_named lists.tables.items ≡ map (named_table spec.parts) (tables_in spec.parts)
    → map machine automata ≡ map (automaton_of spec.parts) (automata_in spec.parts)
    → IsFresh columns old → IsDrafted (environment_of lists) spec.parts old new
    → shape ∷ [] ≡ new.shapes.items → goal ∷ [] ≡ new.goals.items
    → IsResolved spec (plain_checked spec.version lists.columns.items lists.labels.items
    new.measures.items lists.tables.items automata new.tests.items
    new.named.items new.keep shape goal)
is_resolved spec lists automata columns old new shape goal names items count tables machines fresh drafted one_shape
    one_goal = record {
      version = refl;
      columns = items;
      labels = ap (λ (e : Environment). e.labels) names;
      measures = drafted.measures
          ∙ ap (λ (xs : List (List PlainCase)). xs ++ flat_map
          (λ (part : PartTree). declared_measures (environment_of lists) part.kind) spec.parts) fresh.measures
          ∙ ap (λ (n : ℕ). map column_measure (range_with_len 0 n) ++ flat_map
          (λ (part : PartTree). declared_measures (environment_of lists) part.kind) spec.parts) count
          ∙ ap (λ (e : Environment). map column_measure
          (range_with_len 0 (length (environment spec.parts).columns)) ++ flat_map
          (λ (part : PartTree). declared_measures e part.kind) spec.parts) names;
      tables = tables;
      automata = machines;
      tests = drafted.tests
          ∙ ap (λ (xs : List Test). map plain_test xs ++ flat_map
          (λ (part : PartTree). tests_of (environment_of lists) part.kind) spec.parts) fresh.tests
          ∙ ap (λ (e : Environment). flat_map (λ (part : PartTree). tests_of e part.kind) spec.parts) names;
      named = drafted.named
          ∙ ap (λ (xs : List Bool). xs ++ flat_map (λ (part : PartTree). named_of part.kind) spec.parts) fresh.named;
      keep = drafted.keep
          ∙ ap (λ (k : Option Keep). option_or (plain_keep_if k) (first_of (flat_map
          (λ (part : PartTree). keeps_of (environment_of lists) part.kind) spec.parts))) fresh.keep
          ∙ ap (λ (e : Environment). first_of (flat_map (λ (part : PartTree). keeps_of e part.kind) spec.parts)) names;
      shape = one_shape ∙ shapes_drafted (environment_of lists) spec.parts columns old new fresh drafted;
      goal = one_goal ∙ goals_drafted (environment_of lists) spec.parts columns old new fresh names drafted;
    }
