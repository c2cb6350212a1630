-- The one specification that another is resolved to.
use Rattle.std.specs.Prelude.{◌≡◌, List, [], ◌∷◌, None, map, Result, Ok}
use Rattle.std.specs.List.{flat_map}
use Rattle.std.proofs.Common.{refl}
use Rattle.outcome_kit.specs.Outcome.{unless}
use Rattle.shape_gen.specs.declared.shape.Shape.TheVariants.{Sublists}
use Rattle.gta_checked.specs.declared.resolved.Goal.TheVariants.{Count}
use Rattle.gta_checked.specs.Plain.{PlainChecked}
use Rattle.gta_spec.specs.Parts.{SpecTree}
use Rattle.gta_spec.specs.WellFormed.{IsWellFormed}
use Rattle.spec_automata.specs.Automata.{automata_in, automaton_of}
use Rattle.spec_tables.specs.Tables.{tables_in, named_table}
use Rattle.gta_types.specs.declared.fault.CheckFault.{CheckFault}
use Rattle.gta_types.specs.Faults.{check_fault}
use Rattle.gta_types.specs.Resolved.{IsResolved, column_items, environment, first_of, goals_of, keeps_of, measures_of}
use Rattle.gta_types.specs.Resolved.{named_of, shapes_of, tests_of}

-- the first of a list, or what stands in its place
abbrev pub first_or : {A : Type 0} → A → List A → A
first_or other [] = other
first_or other (x ∷ xs) = x

-- the specification with its names resolved; one that is accepted has one shape and one aggregate
unfoldable pub resolved_of : SpecTree → PlainChecked
resolved_of spec =
    let env = environment spec.parts in
    record {
      version = spec.version;
      columns = flat_map (λ part. column_items part.kind) spec.parts;
      labels = env.labels;
      measures = measures_of spec.parts;
      tables = map (named_table spec.parts) (tables_in spec.parts);
      automata = map (automaton_of spec.parts) (automata_in spec.parts);
      tests = flat_map (λ part. tests_of env part.kind) spec.parts;
      named = flat_map (λ part. named_of part.kind) spec.parts;
      keep = first_of (flat_map (λ part. keeps_of env part.kind) spec.parts);
      shape = first_or Sublists (flat_map (λ part. shapes_of part.kind) spec.parts);
      goal = first_or Count (flat_map (λ part. goals_of env part.kind) spec.parts);
    }

-- the specification with its names resolved, unless it has a fault
abbrev pub checked_outcome : SpecTree → Result PlainChecked CheckFault
checked_outcome spec = unless (check_fault spec) (Ok (resolved_of spec))

-- `resolved_of` gives the resolved specification of each well-formed one without a fault
abbrev pub ResolvesEach : Type 0
ResolvesEach = (spec : SpecTree) → IsWellFormed spec → check_fault spec ≡ None
    → IsResolved spec (resolved_of spec)

-- no other specification is the resolved one
abbrev pub ResolvesOnce : Type 0
ResolvesOnce = (spec : SpecTree) (checked : PlainChecked) → IsResolved spec checked → checked ≡ resolved_of spec

pub resolved-is : {spec : SpecTree} {checked : PlainChecked} → IsResolved spec checked → checked ≡ resolved_of spec
unfolding resolved_of
resolved-is is =
    rw (
      ← is.measures,
      ← is.tables,
      ← is.automata,
      ← is.tests,
      ← is.named,
      ← is.keep,
      ← is.goal,
      ← is.labels,
      ← is.columns,
      ← is.shape,
      ← is.version,
    ) refl
