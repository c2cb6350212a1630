use Rattle.std.proofs.Common.{◌≡◌, ◌++◌, drop, map}
use Rattle.std.specs.Prelude.{flat_map}
use Rattle.gta_spec.specs.Parts.{part_tree}
use Rattle.gta_canonical.specs.Canonical.{part_text}
use Rattle.gta_canonical.proofs.showing.put_parts.Given as goal

abbrev pub invariant-loop-part : goal.invariant-loop-part
invariant-loop-part l =
    l.out.items ++ flat_map part_text (map part_tree (drop l.part-index l.parts)) ≡ l.initial.out.items ++ flat_map
    part_text (map part_tree l.parts)
