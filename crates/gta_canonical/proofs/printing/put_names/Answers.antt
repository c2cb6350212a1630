use Rattle.std.proofs.Common.{◌≡◌, ◌+◌, ◌∷◌, [], drop, arith}
use Rattle.std.proofs.lemmas.Grind.{common_steps}
use Rattle.gta_spec.proofs.Items.{drop_at}
use Rattle.gta_canonical.proofs.Fronts.{name_is_front, written_at_item, written_at_end}
use Rattle.gta_canonical.proofs.printing.put_names.Goals as goal

pub loop-name-preserved : goal.loop-name-preserved
loop-name-preserved c =
    let cut : drop c.loop-name.name-index c.args.names.now ≡ c.name-item.result ∷ drop (c.loop-name.name-index + 1)
    c.args.names.now =
    drop_at _ _ c.name-item.result c.loop-name-test.true c.name-item.is in
    written_at_item name_is_front (rw cut at c.loop-name.invariant) c.in_ok-put_name.ensures

pub returns : goal.returns
returns c =
    let empty : drop c.loop-name.name-index c.args.names.now ≡ [] = grind (arith, common_steps) in
    written_at_end (rw empty at c.loop-name.invariant)
