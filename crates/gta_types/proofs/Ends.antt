-- The outcome of a specification, from the faults of its names, its rules, its tables and its automata.
use Rattle.std.proofs.Common.{◌≡◌, map, Option, Some, None, Ok, option_map, sym, ap, ◌∙◌}
use Rattle.std.specs.Prelude.{IfSome}
use Rattle.std.specs.Option.{option_or}
use Rattle.std.proofs.lemmas.Option.{IfSome_then}
use Rattle.outcome_kit.specs.Outcome.{unless, Carries}
use Rattle.outcome_kit.proofs.Outcomes.{unless-Carries, unless-Err}
use Rattle.gta_checked.specs.Plain.{PlainChecked}
use Rattle.gta_spec.specs.Parts.{SpecTree}
use Rattle.spec_rules.specs.declared.fault.RuleFault.{RuleFault}
use Rattle.spec_rules.specs.declared.fault.RuleFault.TheVariants as rules
use Rattle.spec_rules.specs.SpecRules.{rule_fault}
use Rattle.spec_automata.specs.declared.fault.AutomataFault.{AutomataFault}
use Rattle.spec_automata.specs.Automata.{automata_in, automaton_of}
use Rattle.spec_automata.specs.Faults.{automata_fault, automata_outcome}
use Rattle.spec_tables.specs.declared.fault.TablesFault.{TablesFault}
use Rattle.spec_tables.specs.Tables.{named_table, tables_in}
use Rattle.spec_tables.specs.Faults.{tables_fault, tables_outcome}
use Rattle.gta_types.specs.declared.fault.CheckFault.{CheckFault}
use Rattle.gta_types.specs.declared.fault.CheckFault.TheVariants.{Automaton, Table}
use Rattle.gta_types.specs.Faults.{name_fault, check_fault, fault_in, fault_of_rule}
use Rattle.gta_types.specs.Resolved.{IsResolved}
use Rattle.gta_types.specs.ResolvedOf.{checked_outcome, resolved-is, resolved_of}

-- the faults of the tables and of the automata
abbrev of_tables : SpecTree → Option CheckFault
of_tables spec = option_map Table (tables_fault spec.parts)

abbrev of_automata : SpecTree → Option CheckFault
of_automata spec = option_map Automaton (automata_fault spec.parts)

abbrev of_both : SpecTree → Option CheckFault
of_both spec = option_or (of_tables spec) (of_automata spec)

module _ (spec : SpecTree) where
  stopped : (fault : CheckFault) → check_fault spec ≡ Some fault → Carries (checked_outcome spec) (Some fault)
  stopped fault is = ap (λ (o : Option CheckFault). unless o (Ok (resolved_of spec))) is

  named : (fault : CheckFault) → name_fault spec.parts ≡ Some fault → check_fault spec ≡ Some fault
  unfolding check_fault
  named fault e = ap (λ (o : Option CheckFault). option_or o
      (option_or (option_map fault_of_rule (rule_fault spec)) (of_both spec))) e

  pub end_of_names : (fault : CheckFault) → IfSome (fault_in fault) (λ told. name_fault spec.parts ≡ Some told)
      → Carries (checked_outcome spec) (fault_in fault)
  end_of_names fault names =
      unless-Carries (check_fault spec) (Ok (resolved_of spec)) (fault_in fault)
      (IfSome_then (fault_in fault) names (λ told is. named told is))

  module _ (names : name_fault spec.parts ≡ None) where
    after_names : check_fault spec ≡ option_or (option_map fault_of_rule (rule_fault spec)) (of_both spec)
    unfolding check_fault
    after_names =
        ap (λ (o : Option CheckFault). option_or o (option_or (option_map fault_of_rule (rule_fault spec))
        (of_both spec))) names

    broken : (rule : RuleFault) → rule_fault spec ≡ Some rule
        → Carries (checked_outcome spec) (Some (fault_of_rule rule))
    broken rule is = stopped (fault_of_rule rule)
        (after_names ∙ ap (λ (o : Option RuleFault). option_or (option_map fault_of_rule o) (of_both spec)) is)

    pub end_of_rule : (rule : RuleFault) → rule_fault spec ≡ Some rule
        → Carries (checked_outcome spec) (fault_in (fault_of_rule rule))
    end_of_rule (rules.Missing part) is = broken _ is
    end_of_rule (rules.SecondPart line part) is = broken _ is
    end_of_rule (rules.LabelsAssign line assign) is = broken _ is
    end_of_rule (rules.Limit line limit) is = broken _ is

    module _ (kept : rule_fault spec ≡ None) where
      after_rules : check_fault spec ≡ of_both spec
      after_rules = after_names
          ∙ ap (λ (o : Option RuleFault). option_or (option_map fault_of_rule o) (of_both spec)) kept

      pub end_of_tables : (end : Option TablesFault) → Carries (tables_outcome spec.parts) end
          → Carries (checked_outcome spec) (option_map Table end)
      end_of_tables None is = tt
      end_of_tables (Some fault) is = stopped (Table fault)
          (after_rules ∙ ap (λ (o : Option TablesFault). option_or (option_map Table o) (of_automata spec))
          (unless-Err (tables_fault spec.parts) (map (named_table spec.parts) (tables_in spec.parts)) fault is))

      module _ (lawful : tables_fault spec.parts ≡ None) where
        after_tables : check_fault spec ≡ of_automata spec
        after_tables = after_rules
            ∙ ap (λ (o : Option TablesFault). option_or (option_map Table o) (of_automata spec)) lawful

        pub end_of_automata : (end : Option AutomataFault) → Carries (automata_outcome spec.parts) end
            → Carries (checked_outcome spec) (option_map Automaton end)
        end_of_automata None is = tt
        end_of_automata (Some fault) is = stopped (Automaton fault)
            (after_tables ∙ ap (option_map Automaton)
            (unless-Err (automata_fault spec.parts) (map (automaton_of spec.parts) (automata_in spec.parts)) fault is))

        -- without a fault it is the resolved specification
        pub no_end : (checked : PlainChecked) → automata_fault spec.parts ≡ None → IsResolved spec checked
            → checked_outcome spec ≡ Ok checked
        no_end checked none is =
            ap (λ (o : Option CheckFault). unless o (Ok (resolved_of spec)))
            (after_tables ∙ ap (option_map Automaton) none)
            ∙ ap Ok (sym (resolved-is is))
