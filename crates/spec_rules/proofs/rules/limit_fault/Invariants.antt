use Rattle.std.specs.Prelude.{◌≡◌, ◌≤◌, map, take}
use Rattle.gta_spec.specs.Parts.{part_tree}
use Rattle.spec_rules.specs.SpecRules.{count_of, is_automaton, is_measure, is_table, is_test, limit_at}
use Rattle.spec_rules.proofs.Answered.{NoneBefore}
use Rattle.spec_rules.proofs.rules.limit_fault.Given as goal

abbrev pub invariant-loop-part : goal.invariant-loop-part
invariant-loop-part l = record {
  none : NoneBefore limit_at part_tree l.parts l.part-index;
  measures : l.measures ≡ count_of is_measure (map part_tree (take l.part-index l.parts));
  tables : l.tables ≡ count_of is_table (map part_tree (take l.part-index l.parts));
  automata : l.automata ≡ count_of is_automaton (map part_tree (take l.part-index l.parts));
  tests : l.tests ≡ count_of is_test (map part_tree (take l.part-index l.parts));
  few_measures : l.measures ≤ l.part-index;
  few_tables : l.tables ≤ l.part-index;
  few_automata : l.automata ≤ l.part-index;
  few_tests : l.tests ≤ l.part-index;
}
