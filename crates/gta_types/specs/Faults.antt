-- The faults of a specification in their order.
use Rattle.std.specs.Prelude.{ℕ, List, Option, Some, None, option_map, codes}
use Rattle.std.specs.Option.{option_or}
use Rattle.gta_spec.specs.Parts.{PartTree, SpecTree}
use Rattle.spec_rules.specs.declared.fault.SinglePart.{SinglePart}
use Rattle.spec_rules.specs.declared.fault.SinglePart.TheVariants as singles
use Rattle.spec_rules.specs.declared.fault.Limit.{Limit}
use Rattle.spec_rules.specs.declared.fault.Limit.TheVariants as limits
use Rattle.spec_rules.specs.declared.fault.RuleFault.{RuleFault}
use Rattle.spec_rules.specs.declared.fault.RuleFault.TheVariants as rules
use Rattle.spec_rules.specs.SpecRules.{rule_fault}
use Rattle.spec_automata.specs.Faults as automata
use Rattle.spec_automata.specs.Faults.{automata_fault}
use Rattle.spec_tables.specs.Faults as tables
use Rattle.spec_tables.specs.Faults.{tables_fault}
use Rattle.gta_types.specs.declared.fault.CheckFault.{CheckFault}
use Rattle.gta_types.specs.declared.fault.CheckFault.TheVariants as faults
use Rattle.gta_types.specs.Names.{declarations, declared_twice, unknown_use}

-- the word of a part
abbrev pub part_word : SinglePart → List ℕ
part_word singles.Columns = codes "columns"
part_word singles.Labels = codes "labels"
part_word singles.Generate = codes "generate"
part_word singles.Aggregate = codes "aggregate"
part_word singles.Keep = codes "keep"

-- the word of a limit
abbrev pub limit_word : Limit → List ℕ
limit_word limits.Name = codes "name"
limit_word limits.Header = codes "header"
limit_word limits.Columns = codes "columns"
limit_word limits.Labels = codes "labels"
limit_word limits.Measures = codes "measures"
limit_word limits.Tables = codes "tables"
limit_word limits.Tests = codes "tests"
limit_word limits.Elements = codes "elements"
limit_word limits.Cases = codes "cases"
limit_word limits.Terms = codes "terms"
limit_word limits.Atoms = codes "atoms"
limit_word limits.Factor = codes "factor"
limit_word limits.Bound = codes "bound"
limit_word limits.Modulus = codes "modulus"
limit_word limits.Residue = codes "residue"
limit_word limits.Kept = codes "k"
limit_word limits.Automata = codes "automata"
limit_word limits.States = codes "states"
limit_word limits.Letters = codes "letters"

abbrev pub fault_of_rule : RuleFault → CheckFault
fault_of_rule (rules.Missing part) = faults.Missing (part_word part)
fault_of_rule (rules.SecondPart line part) = faults.SecondPart line (part_word part)
fault_of_rule (rules.LabelsAssign line assign) = faults.LabelsAssign line assign
fault_of_rule (rules.Limit line limit) = faults.Limit line (limit_word limit)

-- the first fault of the names: an unknown name, or else a name declared twice
unfoldable pub name_fault : List PartTree → Option CheckFault
name_fault parts =
    option_or (option_map (λ u. faults.Unknown u.line u.name) (unknown_use parts))
    (option_map (λ d. faults.Twice d.line d.name) (declared_twice (declarations parts)))

-- the first fault of a specification, or none: of its names, a broken rule, that of its tables, or that of its automata
unfoldable pub check_fault : SpecTree → Option CheckFault
check_fault spec =
    option_or (name_fault spec.parts)
    (option_or (option_map fault_of_rule (rule_fault spec))
    (option_or (option_map faults.Table (tables_fault spec.parts))
    (option_map faults.Automaton (automata_fault spec.parts))))

-- the fault that an end tells of; want of memory is none
abbrev pub fault_in : CheckFault → Option CheckFault
fault_in faults.Memory = None
fault_in (faults.Table end) = option_map faults.Table (tables.fault_in end)
fault_in (faults.Automaton end) = option_map faults.Automaton (automata.fault_in end)
fault_in fault = Some fault
