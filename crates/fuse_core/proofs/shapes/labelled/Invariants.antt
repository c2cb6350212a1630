use Rattle.std.proofs.Common.{◌≡◌, map}
use Rattle.std.specs.List.{range_with_len}
use Rattle.fuse_core.specs.declared.wiring.Growth.TheVariants.{Before}
use Rattle.fuse_core.proofs.shapes.labelled.Given as goal

abbrev pub invariant-loop-label : goal.invariant-loop-label
invariant-loop-label l = l.growths.items ≡ map (λ label. Before label 0) (range_with_len 0 l.label)
