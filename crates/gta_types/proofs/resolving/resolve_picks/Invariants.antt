use Rattle.std.proofs.Common.{◌≡◌, take, map}
use Rattle.gta_spec.specs.Parts.{pick_tree}
use Rattle.gta_checked.specs.Plain.{plain_pick}
use Rattle.gta_types.specs.Resolved.{resolved_pick}
use Rattle.gta_types.specs.Lists.{environment_of}
use Rattle.gta_types.proofs.resolving.resolve_picks.Given as goal

abbrev pub invariant-loop-pick : goal.invariant-loop-pick
invariant-loop-pick l = map plain_pick l.done.items
    ≡ map (resolved_pick (environment_of l.lists) l.elements) (map pick_tree (take l.pick-index l.picks))
