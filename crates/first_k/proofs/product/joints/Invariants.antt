use Rattle.std.proofs.Common.{◌≡◌, map, take}
use Rattle.first_k.specs.Picks.{product_at}
use Rattle.first_k.proofs.product.joints.Given as goal

abbrev pub invariant-joining : goal.invariant-joining
invariant-joining g l =
    let m = g.R.Ranked in
    let at = product_at (m.joint l.ranked) (m.unit l.ranked) l.a l.b in
    l.items.items ≡ map at (take l.pick-index l.picks)
