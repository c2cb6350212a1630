use Rattle.std.proofs.Common.{◌≡◌, ◌+◌, ◌∷◌, [], drop, arith, sym, ◌∙◌, append_assoc}
use Rattle.std.proofs.lemmas.Grind.{common_steps}
use Rattle.std.proofs.lemmas.List.{append-nil}
use Rattle.gta_spec.proofs.Items.{drop_at}
use Rattle.gta_canonical.proofs.showing.put_parts.Goals as goal

pub loop-part-preserved : goal.loop-part-preserved
loop-part-preserved c =
    let cut : drop c.loop-part.part-index c.args.parts.now ≡ c.part-item.result ∷ drop (c.loop-part.part-index + 1)
    c.args.parts.now =
    drop_at _ _ c.part-item.result c.loop-part-test.true c.part-item.is in
    rw (c.in_ok-put_part.ensures, append_assoc) (rw cut at c.loop-part.invariant)

pub returns : goal.returns
returns c =
    let empty : drop c.loop-part.part-index c.args.parts.now ≡ [] = grind (arith, common_steps) in
    sym (append-nil c.loop-part.out.items) ∙ (rw empty at c.loop-part.invariant)
