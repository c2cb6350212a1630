use Rattle.std.proofs.Common.{◌≡◌, ◌++◌, map, take}
use Rattle.std.specs.Prelude.{slice_index_or}
use Rattle.std.specs.List.{All}
use Rattle.witness_order.specs.Ranked.{first_of}
use Rattle.first_k.specs.Picks.{product_at, IsPickOf}
use Rattle.first_k.proofs.product.add_row.Given as goal

-- the picks are the first k of what was there and of the row's products so far
abbrev pub invariant-row : goal.invariant-row
invariant-row g l =
    let m = g.R.Ranked in
    let at = product_at (m.joint l.ranked) (m.unit l.ranked) l.a l.b in
    let left = slice_index_or l.a l.left (m.unit l.ranked) in
    record {
      within : All (IsPickOf l.a l.b) l.picks.items;
      so_far : map at l.picks.items ≡ first_of (m.order l.ranked) l.k
          (map at l.initial.picks.items ++ map (m.joint l.ranked left) (take l.right l.b));
    }
