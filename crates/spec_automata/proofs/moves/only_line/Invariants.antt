use Rattle.std.proofs.Common.{◌≡◌, map, take, option_map}
use Rattle.gta_spec.specs.Parts.{step_tree}
use Rattle.spec_tables.specs.Tables.{option_list}
use Rattle.spec_automata.specs.Lines.{targets_for}
use Rattle.spec_automata.proofs.moves.only_line.Given as goal

abbrev pub invariant-loop-line : goal.invariant-loop-line
invariant-loop-line l =
    targets_for l.letter (map (λ line. step_tree line.now) (take l.line-index l.lines))
    ≡ option_list (option_map (λ targets. targets.now) l.found)
