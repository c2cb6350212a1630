use Rattle.std.proofs.Common.{take, map}
use Rattle.gta_spec.specs.Parts.{part_tree}
use Rattle.gta_types.specs.Lists.{environment_of, IsDrafted}
use Rattle.gta_types.proofs.drafting.draft_parts.Given as goal

abbrev pub invariant-loop-part : goal.invariant-loop-part
invariant-loop-part l =
    IsDrafted (environment_of l.lists) (map part_tree (take l.part-index l.parts)) l.initial.draft l.draft
