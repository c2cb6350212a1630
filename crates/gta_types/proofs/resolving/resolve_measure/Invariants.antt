use Rattle.std.proofs.Common.{◌≡◌, take, map}
use Rattle.gta_spec.specs.Parts.{case_tree}
use Rattle.gta_checked.specs.Plain.{plain_case}
use Rattle.gta_types.specs.Resolved.{resolved_case}
use Rattle.gta_types.specs.Lists.{environment_of}
use Rattle.gta_types.proofs.resolving.resolve_measure.Given as goal

abbrev pub invariant-loop-case : goal.invariant-loop-case
invariant-loop-case l = map plain_case l.done.items
    ≡ map (resolved_case (environment_of l.lists)) (map case_tree (take l.case-index l.cases))
