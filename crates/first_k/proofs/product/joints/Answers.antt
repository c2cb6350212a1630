-- The candidates at the places are within their lists' reach.
use Rattle.first_k.specs.declared.product.Pick.{Pick}
use Rattle.first_k.specs.Picks.{IsPickOf, pick_at}
use Rattle.first_k.proofs.Picks.{joint_within}
use Rattle.first_k.proofs.product.joints.Goals as goal

pub joint-requires : goal.joint-requires
joint-requires g c =
    let pick : Pick = pick_at c.args.picks.now c.joining.pick-index in
    let within : IsPickOf c.args.a.now c.args.b.now pick =
    c.requires.picks_are_within c.joining.pick-index (record { left = 0; right = 0 }) c.joining-test.true in
    joint_within (g.R.Ranked.reach c.args.ranked.now) c.args.a.now c.args.b.now pick.left pick.right
    c.index-a-pick.result c.index-b-pick.result
    within.left c.index-a-pick.is within.right c.index-b-pick.is c.requires.reaches_add_up
