use Rattle.std.proofs.Common.{◌≡◌, ◌+◌, ◌∷◌, [], drop, arith}
use Rattle.std.proofs.lemmas.Grind.{common_steps}
use Rattle.gta_spec.proofs.Items.{drop_at}
use Rattle.gta_canonical.proofs.Fronts.{item_is_front, written_at_item, written_at_end}
use Rattle.gta_canonical.proofs.printing.put_items.Goals as goal

pub loop-item-preserved : goal.loop-item-preserved
loop-item-preserved c =
    let cut : drop c.loop-item.item-index c.args.items.now ≡ c.item-item.result ∷ drop (c.loop-item.item-index + 1)
    c.args.items.now =
    drop_at _ _ c.item-item.result c.loop-item-test.true c.item-item.is in
    written_at_item item_is_front (rw cut at c.loop-item.invariant) c.in_ok-put_item.ensures

pub returns : goal.returns
returns c =
    let empty : drop c.loop-item.item-index c.args.items.now ≡ [] = grind (arith, common_steps) in
    written_at_end (rw empty at c.loop-item.invariant)
