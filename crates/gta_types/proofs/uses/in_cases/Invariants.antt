use Rattle.std.proofs.Common.{◌≡◌, None, take}
use Rattle.std.specs.List.{flat_map}
use Rattle.gta_spec.specs.Parts.{case_tree}
use Rattle.gta_types.specs.Names.{uses_of_case}
use Rattle.gta_types.specs.Index.{unknown_in}
use Rattle.gta_types.proofs.uses.in_cases.Given as goal

abbrev pub invariant-loop-case : goal.invariant-loop-case
invariant-loop-case l =
    unknown_in l.names (flat_map (λ case. uses_of_case l.line (case_tree case)) (take l.case-index l.cases)) ≡ None
