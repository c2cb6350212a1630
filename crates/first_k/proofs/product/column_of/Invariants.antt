use Rattle.std.proofs.Common.{◌≡◌, map, take}
use Rattle.first_k.proofs.product.column_of.Given as goal

abbrev pub invariant-joining : goal.invariant-joining
invariant-joining g l = l.items.items ≡ map (λ left. g.R.Ranked.joint l.ranked left l.b) (take l.left-index l.a)
