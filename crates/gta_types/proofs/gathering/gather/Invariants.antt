use Rattle.std.proofs.Common.{take, map}
use Rattle.gta_spec.specs.Parts.{part_tree}
use Rattle.gta_types.specs.Lists.{HasGathered}
use Rattle.gta_types.proofs.gathering.gather.Given as goal

abbrev pub invariant-loop-part : goal.invariant-loop-part
invariant-loop-part l = HasGathered (map part_tree (take l.part-index l.parts)) l.gathered
