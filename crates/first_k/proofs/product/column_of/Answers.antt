-- A candidate reaches no further than its list.
use Rattle.std.proofs.Common.{arith}
use Rattle.first_k.proofs.Rows.{reach_within}
use Rattle.first_k.proofs.product.column_of.Goals as goal

pub joint-requires : goal.joint-requires
joint-requires g c =
    let within = reach_within (g.R.Ranked.reach c.args.ranked.now) c.args.a.now c.joining.left-index
    c.left-item.result c.joining-test.true c.left-item.is in
    let add_up = c.requires in
    omega (arith, within, add_up)
