use Rattle.std.proofs.Common.{◌≡◌, take}
use Rattle.first_k.proofs.kit.copied_all.Given as goal

abbrev pub invariant-copying : goal.invariant-copying
invariant-copying g l = l.copies.items ≡ take l.item-index l.items
