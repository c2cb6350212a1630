use Rattle.std.proofs.Common.{◌≡◌, map, take}
use Rattle.gta_spec.specs.Parts.{part_tree, step_tree}
use Rattle.spec_automata.specs.Lines.{lines_of}
use Rattle.spec_automata.proofs.moves.lines_of.Given as goal

abbrev pub invariant-loop-part : goal.invariant-loop-part
invariant-loop-part l =
    map (λ line. step_tree line.now) l.lines.items ≡ lines_of (map part_tree (take l.part-index l.parts)) l.automaton
