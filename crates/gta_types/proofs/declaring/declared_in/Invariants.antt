use Rattle.std.proofs.Common.{◌≡◌, map, take}
use Rattle.gta_spec.specs.Parts.{part_tree}
use Rattle.gta_types.specs.Names.{declarations}
use Rattle.gta_types.specs.Index.{declaration}
use Rattle.gta_types.proofs.declaring.declared_in.Given as goal

abbrev pub invariant-loop-part : goal.invariant-loop-part
invariant-loop-part l =
    map declaration l.all.items ≡ declarations (map part_tree (take l.part-index l.parts))
