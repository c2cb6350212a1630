use Rattle.std.proofs.Common.{◌≡◌, ◌+◌, ◌∷◌, [], drop, arith}
use Rattle.std.proofs.lemmas.Grind.{common_steps}
use Rattle.gta_spec.proofs.Items.{drop_at}
use Rattle.gta_canonical.proofs.Fronts.{next_pick_is_front, written_at_item, written_at_end}
use Rattle.gta_canonical.proofs.part_printing.put_more_picks.Goals as goal

pub loop-pick-preserved : goal.loop-pick-preserved
loop-pick-preserved c =
    let cut : drop c.loop-pick.pick-index c.args.picks.now ≡ c.pick-item.result ∷ drop (c.loop-pick.pick-index + 1)
    c.args.picks.now =
    drop_at _ _ c.pick-item.result c.loop-pick-test.true c.pick-item.is in
    written_at_item next_pick_is_front (rw cut at c.loop-pick.invariant) c.in_ok-put_next_pick.ensures

pub returns : goal.returns
returns c =
    let empty : drop c.loop-pick.pick-index c.args.picks.now ≡ [] = grind (arith, common_steps) in
    written_at_end (rw empty at c.loop-pick.invariant)
