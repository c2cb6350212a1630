use Rattle.std.proofs.Common.{◌≡◌, map, take}
use Rattle.first_k.proofs.product.row_of.Given as goal

abbrev pub invariant-joining : goal.invariant-joining
invariant-joining g l = l.items.items ≡ map (g.R.Ranked.joint l.ranked l.a) (take l.right-index l.b)
