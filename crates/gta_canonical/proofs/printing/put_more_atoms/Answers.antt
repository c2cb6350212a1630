use Rattle.std.proofs.Common.{◌≡◌, ◌+◌, ◌∷◌, [], drop, arith}
use Rattle.std.proofs.lemmas.Grind.{common_steps}
use Rattle.gta_spec.proofs.Items.{drop_at}
use Rattle.gta_canonical.proofs.Fronts.{and_is_front, written_at_item, written_at_end}
use Rattle.gta_canonical.proofs.printing.put_more_atoms.Goals as goal

pub loop-atom-preserved : goal.loop-atom-preserved
loop-atom-preserved c =
    let cut : drop c.loop-atom.atom-index c.args.atoms.now ≡ c.atom-item.result ∷ drop (c.loop-atom.atom-index + 1)
    c.args.atoms.now =
    drop_at _ _ c.atom-item.result c.loop-atom-test.true c.atom-item.is in
    written_at_item and_is_front (rw cut at c.loop-atom.invariant) c.in_ok-put_and.ensures

pub returns : goal.returns
returns c =
    let empty : drop c.loop-atom.atom-index c.args.atoms.now ≡ [] = grind (arith, common_steps) in
    written_at_end (rw empty at c.loop-atom.invariant)
