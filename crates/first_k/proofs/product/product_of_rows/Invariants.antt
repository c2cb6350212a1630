use Rattle.std.proofs.Common.{◌≡◌, map, take}
use Rattle.std.specs.List.{All}
use Rattle.witness_order.specs.Ranked.{first_of}
use Rattle.first_k.specs.FirstK.{products}
use Rattle.first_k.specs.Picks.{product_at, IsPickOf}
use Rattle.first_k.proofs.product.product_of_rows.Given as goal

-- the picks are the first k of the products of all rows so far
abbrev pub invariant-rows : goal.invariant-rows
invariant-rows g l =
    let m = g.R.Ranked in
    let at = product_at (m.joint l.ranked) (m.unit l.ranked) l.a l.b in
    record {
      within : All (IsPickOf l.a l.b) l.picks.items;
      so_far : map at l.picks.items
          ≡ first_of (m.order l.ranked) l.k (products (m.joint l.ranked) (take l.left l.a) l.b);
    }
