-- One more row.
use Rattle.std.proofs.Common.{map, take, sym, subst}
use Rattle.witness_order.specs.Ranked.{IsRankedWithin}
use Rattle.witness_order.proofs.Firsts.{first_of-IsRankedWithin}
use Rattle.first_k.specs.FirstK.{products}
use Rattle.first_k.specs.Picks.{product_at}
use Rattle.first_k.proofs.Rows.{rows_more}
use Rattle.first_k.proofs.product.product_of_rows.Goals as goal

pub add_row-requires-clause-picks_in_order : goal.add_row-requires-clause-picks_in_order
add_row-requires-clause-picks_in_order g c =
    let m = g.R.Ranked in
    let ranked = c.args.ranked.now in
    subst (IsRankedWithin (m.order ranked) c.args.k) (sym c.rows.invariant.so_far)
    (first_of-IsRankedWithin (m.order ranked) (g.met.R.Ranked.ranking ranked) c.args.k
    (products (m.joint ranked) (take c.rows.left c.args.a.now) c.args.b.now))

pub rows-preserved : goal.rows-preserved
rows-preserved g c =
    let m = g.R.Ranked in
    let ranked = c.args.ranked.now in
    let at = product_at (m.joint ranked) (m.unit ranked) c.args.a.now c.args.b.now in
    record {
      within = c.in_ok-add_row.ensures.picks_are_within;
      so_far =
          rows_more (m.order ranked) (g.met.R.Ranked.ranking ranked) (m.joint ranked) c.args.k
          (map at c.rows.picks.items) (map at c.add_row.new.picks.items)
          c.args.a.now c.args.b.now c.rows.left (m.unit ranked) c.rows-test.true
          c.rows.invariant.so_far c.in_ok-add_row.ensures.value;
    }
