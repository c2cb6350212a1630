use Rattle.std.proofs.Common.{◌≡◌, None, map, take}
use Rattle.std.specs.List.{find}
use Rattle.std.specs.Str.{bytes_eq}
use Rattle.gta_spec.specs.Parts.{automaton_tree}
use Rattle.gta_types.specs.Resolved.{automaton_names}
use Rattle.gta_types.proofs.resolving.automaton_named.Given as goal

abbrev pub invariant-loop-automaton : goal.invariant-loop-automaton
invariant-loop-automaton l =
    find (λ a. bytes_eq a.name l.fn.name)
    (map (λ line. automaton_names (automaton_tree line.now)) (take l.automaton-index l.automaton-items)) ≡ None
