-- The pick is put in at its place, unless that lies past the first k.
use Rattle.first_k.specs.Picks.{product_at}
use Rattle.first_k.proofs.Picks.{pick_left_out, pick_kept}
use Rattle.first_k.proofs.product.add_pick.Goals as goal

pub returns-then-place-k-clause-value : goal.returns-then-place-k-clause-value
returns-then-place-k-clause-value g c =
    let m = g.R.Ranked in
    let ranked = c.args.ranked.now in
    let at = product_at (m.joint ranked) (m.unit ranked) c.args.a.now c.args.b.now in
    let shown = c.as_slice.ensures.value in
    let after = rw shown at c.place_of-place.ensures.after in
    let within = rw shown at c.place_of-place.ensures.within in
    pick_left_out (m.order ranked) (g.met.R.Ranked.ranking ranked) at (record { left = 0; right = 0 })
    c.args.picks.now.items c.args.pick c.args.k
    c.place_of-place.result c.requires.picks_in_order within after c.if-place-k.true

pub returns-clause-value : goal.returns-clause-value
returns-clause-value g c =
    let m = g.R.Ranked in
    let ranked = c.args.ranked.now in
    let at = product_at (m.joint ranked) (m.unit ranked) c.args.a.now c.args.b.now in
    let shown = c.as_slice.ensures.value in
    let after = rw shown at c.place_of-place.ensures.after in
    let not_after = rw shown at c.place_of-place.ensures.not_after in
    let within = rw shown at c.place_of-place.ensures.within in
    rw (c.in_ok-insert.ensures.items, c.truncate.ensures.items)
    (pick_kept (m.order ranked) (g.met.R.Ranked.ranking ranked) at (record { left = 0; right = 0 })
    c.args.picks.now.items c.args.pick c.args.k
    c.place_of-place.result c.requires.picks_in_order within after c.if-place-k.false not_after)
