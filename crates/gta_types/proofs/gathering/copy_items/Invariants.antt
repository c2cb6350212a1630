use Rattle.std.proofs.Common.{◌≡◌, ◌++◌, take}
use Rattle.gta_types.proofs.gathering.copy_items.Given as goal

abbrev pub invariant-loop-item : goal.invariant-loop-item
invariant-loop-item l = l.copies.items ≡ l.initial.copies.items ++ take l.item-index l.items
