use Rattle.std.proofs.Common.{◌≡◌, None, All, map, take}
use Rattle.auto_monoid.specs.TransitionOf.{machine}
use Rattle.gta_spec.specs.Parts.{part_tree}
use Rattle.gta_checked.specs.Within.{IsAutomatonWithin}
use Rattle.spec_automata.specs.Automata.{automata_in, automaton_of}
use Rattle.spec_automata.specs.Faults.{first_of, not_total, too_many}
use Rattle.spec_automata.proofs.automata.checked_automata.Given as goal

-- the faults of the automata so far, and where there is none, the automata
abbrev pub invariant-loop-part : goal.invariant-loop-part
invariant-loop-part l = record {
  not_total : l.not_total
      ≡ first_of (not_total (map part_tree l.parts)) (automata_in (map part_tree (take l.part-index l.parts)));
  too_many : l.not_total ≡ None → l.too_many
      ≡ first_of (too_many (map part_tree l.parts)) (automata_in (map part_tree (take l.part-index l.parts)));
  automata : l.not_total ≡ None → l.too_many ≡ None → map machine l.automata.items
      ≡ map (automaton_of (map part_tree l.parts)) (automata_in (map part_tree (take l.part-index l.parts)));
  within : All IsAutomatonWithin (map machine l.automata.items);
}
