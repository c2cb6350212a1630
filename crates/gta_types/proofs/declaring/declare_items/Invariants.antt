use Rattle.std.proofs.Common.{◌≡◌, ◌++◌, map, take}
use Rattle.gta_types.specs.declared.declaring.NameKind.TheVariants.{AColumn}
use Rattle.gta_types.specs.Names.{declare}
use Rattle.gta_types.specs.Index.{declaration}
use Rattle.gta_types.proofs.declaring.declare_items.Given as goal

abbrev pub invariant-loop-item : goal.invariant-loop-item
invariant-loop-item l =
    map declaration l.all.items
    ≡ map declaration l.initial.all.items
    ++ map (λ item. declare l.line AColumn item.name) (take l.item-index l.items)
