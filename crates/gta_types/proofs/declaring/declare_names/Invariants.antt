use Rattle.std.proofs.Common.{◌≡◌, ◌++◌, map, take}
use Rattle.gta_types.specs.Names.{declare}
use Rattle.gta_types.specs.Index.{declaration}
use Rattle.gta_types.proofs.declaring.declare_names.Given as goal

abbrev pub invariant-loop-name : goal.invariant-loop-name
invariant-loop-name l =
    map declaration l.all.items
    ≡ map declaration l.initial.all.items ++ map (declare l.line l.kind) (take l.name-index l.names)
