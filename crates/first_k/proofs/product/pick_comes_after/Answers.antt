-- The candidates at the places are within their lists' reach.
use Rattle.first_k.proofs.Picks.{joint_within}
use Rattle.first_k.proofs.product.pick_comes_after.Goals as goal

pub compare_joint-order-requires-clause-left_adds_up : goal.compare_joint-order-requires-clause-left_adds_up
compare_joint-order-requires-clause-left_adds_up g c =
    joint_within (g.R.Ranked.reach c.args.ranked.now) c.args.a.now c.args.b.now c.args.pick.left c.args.pick.right
    c.index-a-pick.result c.index-b-pick.result
    c.requires.pick_is_within.left c.index-a-pick.is c.requires.pick_is_within.right c.index-b-pick.is
    c.requires.reaches_add_up

pub compare_joint-order-requires-clause-right_adds_up : goal.compare_joint-order-requires-clause-right_adds_up
compare_joint-order-requires-clause-right_adds_up g c =
    joint_within (g.R.Ranked.reach c.args.ranked.now) c.args.a.now c.args.b.now c.args.other.left c.args.other.right
    c.index-a-other.result c.index-b-other.result
    c.requires.other_is_within.left c.index-a-other.is c.requires.other_is_within.right c.index-b-other.is
    c.requires.reaches_add_up
