use Rattle.std.proofs.Common.{◌≡◌, ◌+◌, ◌∷◌, [], drop, arith}
use Rattle.std.proofs.lemmas.Grind.{common_steps}
use Rattle.gta_spec.proofs.Items.{drop_at}
use Rattle.gta_canonical.proofs.Fronts.{next_case_is_front, written_at_item, written_at_end}
use Rattle.gta_canonical.proofs.part_printing.put_more_cases.Goals as goal

pub loop-case-preserved : goal.loop-case-preserved
loop-case-preserved c =
    let cut : drop c.loop-case.case-index c.args.cases.now ≡ c.case-item.result ∷ drop (c.loop-case.case-index + 1)
    c.args.cases.now =
    drop_at _ _ c.case-item.result c.loop-case-test.true c.case-item.is in
    written_at_item next_case_is_front (rw cut at c.loop-case.invariant) c.in_ok-put_next_case.ensures

pub returns : goal.returns
returns c =
    let empty : drop c.loop-case.case-index c.args.cases.now ≡ [] = grind (arith, common_steps) in
    written_at_end (rw empty at c.loop-case.invariant)
