use Rattle.std.proofs.Common.{Ok, map, rules, sym, ◌∙◌, subst}
use Rattle.outcome_kit.specs.Outcome.{Carries}
use Rattle.outcome_kit.proofs.Outcomes.{unless-Ok}
use Rattle.auto_monoid.specs.TransitionOf.{machine}
use Rattle.gta_checked.specs.Plain.{plain_named}
use Rattle.gta_spec.specs.Parts.{spec_tree}
use Rattle.spec_automata.specs.Automata.{automata_in, automaton_of}
use Rattle.spec_automata.specs.Faults as automata
use Rattle.spec_automata.specs.Faults.{automata_fault}
use Rattle.spec_tables.specs.Tables.{named_table, tables_in}
use Rattle.spec_tables.specs.Faults as tables
use Rattle.spec_tables.specs.Faults.{tables_fault}
use Rattle.gta_types.specs.declared.fault.CheckFault.{CheckFault}
use Rattle.gta_types.specs.declared.fault.CheckFault.TheVariants.{Automaton, Table}
use Rattle.gta_types.specs.Faults.{fault_in}
use Rattle.gta_types.specs.ResolvedOf.{checked_outcome}
use Rattle.gta_types.proofs.Accepted.{automata_ready, tables_ready}
use Rattle.gta_types.proofs.Whole.{ascending, is_sound}
use Rattle.gta_types.proofs.Ends.{end_of_automata, end_of_names, end_of_rule, end_of_tables, no_end}
use Rattle.gta_types.proofs.checking.check.Goals as goal

pub check_names-requires : goal.check_names-requires
check_names-requires c =
    let spec = spec_tree c.args.spec.now in
    record { ascend = rw c.as_slice.ensures.value (ascending spec.version 0 spec.parts c.requires.well_formed.parts) }

pub returns-in_err-check_names-clause-tells : goal.returns-in_err-check_names-clause-tells
returns-in_err-check_names-clause-tells c =
    let spec = spec_tree c.args.spec.now in
    let fault = c.in_err-check_names.field-0.0 in
    let names = rw c.as_slice.ensures.value at c.in_err-check_names.ensures.tells in
    let ends : Carries (checked_outcome spec) (fault_in fault) = end_of_names spec fault names in
    search rules

pub returns-in-Some-clause-tells : goal.returns-in-Some-clause-tells
returns-in-Some-clause-tells c =
    let spec = spec_tree c.args.spec.now in
    let names = rw c.as_slice.ensures.value at c.in_ok-check_names.ensures.tells in
    subst (λ (fault : CheckFault). Carries (checked_outcome spec) (fault_in fault)) (sym c.in_ok-fault_of_rule.ensures)
    (end_of_rule spec names c.in-Some.fault (sym c.rule_fault.ensures ∙ c.in-Some.is))

pub checked_tables-requires : goal.checked_tables-requires
checked_tables-requires c =
    let spec = spec_tree c.args.spec.now in
    let names = rw c.as_slice.ensures.value at c.in_ok-check_names.ensures.tells in
    let sound = is_sound spec c.requires.well_formed names (sym c.rule_fault.ensures ∙ c.in_default.is) in
    record { ready = rw c.as_slice-2.ensures.value (tables_ready spec.parts spec.parts sound.facts) }

pub resolve-requires-clause-tables : goal.resolve-requires-clause-tables
resolve-requires-clause-tables c =
    let parts = (spec_tree c.args.spec.now).parts in
    let told = rw c.as_slice-2.ensures.value at c.in_ok-tables.ensures.tells in
    let made = unless-Ok (tables_fault parts) (Ok (map (named_table parts) (tables_in parts)))
    (map plain_named c.in_ok-tables.tables.items) told in
    cc (made.1)

pub returns-in_err-tables-clause-tells : goal.returns-in_err-tables-clause-tells
returns-in_err-tables-clause-tells c =
    let spec = spec_tree c.args.spec.now in
    let fault = c.in_err-tables.field-0.0 in
    let names = rw c.as_slice.ensures.value at c.in_ok-check_names.ensures.tells in
    let told = rw c.as_slice-2.ensures.value at c.in_err-tables.ensures.tells in
    let ends : Carries (checked_outcome spec) (fault_in (Table fault)) =
    end_of_tables spec names (sym c.rule_fault.ensures ∙ c.in_default.is) (tables.fault_in fault) told in
    search rules

pub checked_automata-requires : goal.checked_automata-requires
checked_automata-requires c =
    let spec = spec_tree c.args.spec.now in
    let names = rw c.as_slice.ensures.value at c.in_ok-check_names.ensures.tells in
    let sound = is_sound spec c.requires.well_formed names (sym c.rule_fault.ensures ∙ c.in_default.is) in
    record { ready = rw c.as_slice-3.ensures.value (automata_ready spec.parts spec.parts sound.facts) }

pub resolve-requires-clause-automata : goal.resolve-requires-clause-automata
resolve-requires-clause-automata c =
    let parts = (spec_tree c.args.spec.now).parts in
    let told = rw c.as_slice-3.ensures.value at c.in_ok-automata.ensures.tells in
    let made = unless-Ok (automata_fault parts) (Ok (map (automaton_of parts) (automata_in parts)))
    (map machine c.in_ok-automata.automata.items) told in
    cc (made.1)

pub returns-in_err-automata-clause-tells : goal.returns-in_err-automata-clause-tells
returns-in_err-automata-clause-tells c =
    let spec = spec_tree c.args.spec.now in
    let fault = c.in_err-automata.field-0.0 in
    let names = rw c.as_slice.ensures.value at c.in_ok-check_names.ensures.tells in
    let told = rw c.as_slice-2.ensures.value at c.in_ok-tables.ensures.tells in
    let made = unless-Ok (tables_fault spec.parts) (Ok (map (named_table spec.parts) (tables_in spec.parts)))
    (map plain_named c.in_ok-tables.tables.items) told in
    let ended = rw c.as_slice-3.ensures.value at c.in_err-automata.ensures.tells in
    let ends : Carries (checked_outcome spec) (fault_in (Automaton fault)) =
    end_of_automata spec names (sym c.rule_fault.ensures ∙ c.in_default.is) made.0 (automata.fault_in fault) ended in
    search rules

pub returns-clause-tells : goal.returns-clause-tells
returns-clause-tells c =
    let spec = spec_tree c.args.spec.now in
    let names = rw c.as_slice.ensures.value at c.in_ok-check_names.ensures.tells in
    let told = rw c.as_slice-2.ensures.value at c.in_ok-tables.ensures.tells in
    let made = unless-Ok (tables_fault spec.parts) (Ok (map (named_table spec.parts) (tables_in spec.parts)))
    (map plain_named c.in_ok-tables.tables.items) told in
    let ended = rw c.as_slice-3.ensures.value at c.in_ok-automata.ensures.tells in
    let machines = unless-Ok (automata_fault spec.parts) (Ok (map (automaton_of spec.parts) (automata_in spec.parts)))
    (map machine c.in_ok-automata.automata.items) ended in
    no_end spec names (sym c.rule_fault.ensures ∙ c.in_default.is) made.0 c.in_ok-resolve.field-0 machines.0
    c.in_ok-resolve.ensures
