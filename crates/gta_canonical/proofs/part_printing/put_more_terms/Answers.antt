use Rattle.std.proofs.Common.{◌≡◌, ◌+◌, ◌∷◌, [], drop, arith}
use Rattle.std.proofs.lemmas.Grind.{common_steps}
use Rattle.gta_spec.proofs.Items.{drop_at}
use Rattle.gta_canonical.proofs.Fronts.{next_term_is_front, written_at_item, written_at_end}
use Rattle.gta_canonical.proofs.part_printing.put_more_terms.Goals as goal

pub loop-term-preserved : goal.loop-term-preserved
loop-term-preserved c =
    let cut : drop c.loop-term.term-index c.args.terms.now ≡ c.term-item.result ∷ drop (c.loop-term.term-index + 1)
    c.args.terms.now =
    drop_at _ _ c.term-item.result c.loop-term-test.true c.term-item.is in
    written_at_item next_term_is_front (rw cut at c.loop-term.invariant) c.in_ok-put_next_term.ensures

pub returns : goal.returns
returns c =
    let empty : drop c.loop-term.term-index c.args.terms.now ≡ [] = grind (arith, common_steps) in
    written_at_end (rw empty at c.loop-term.invariant)
