use Rattle.std.proofs.Common.{◌≡◌, None, map, take}
use Rattle.std.specs.List.{find}
use Rattle.gta_spec.specs.Parts.{part_tree, automaton_tree}
use Rattle.spec_automata.proofs.Total.{is_bad, moves_by}
use Rattle.spec_automata.proofs.moves.moves_of.Given as goal

abbrev pub invariant-loop-number : goal.invariant-loop-number
invariant-loop-number l = record {
  total : find (is_bad (map part_tree l.parts) (automaton_tree l.automaton))
      (take l.number l.automaton.letters.items) ≡ None;
  so_far : l.moves.items
      ≡ moves_by (map part_tree l.parts) (automaton_tree l.automaton) (take l.number l.automaton.letters.items);
}
