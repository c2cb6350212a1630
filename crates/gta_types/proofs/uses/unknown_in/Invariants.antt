use Rattle.std.proofs.Common.{◌≡◌, None, take}
use Rattle.std.specs.List.{flat_map}
use Rattle.gta_spec.specs.Parts.{kind_tree}
use Rattle.gta_types.specs.Names.{uses_of}
use Rattle.gta_types.specs.Index.{unknown_in}
use Rattle.gta_types.proofs.uses.unknown_in.Given as goal

abbrev pub invariant-loop-part : goal.invariant-loop-part
invariant-loop-part l =
    unknown_in l.names (flat_map (λ part. uses_of part.line (kind_tree part.kind)) (take l.part-index l.parts)) ≡ None
