use Rattle.std.proofs.Common.{[], ◌∙◌, sym, ap, below_more, arith}
use Rattle.std.proofs.lemmas.List.{get_or_default}
use Rattle.std.proofs.lemmas.List.Sums.{position_or_len_is}
use Rattle.auto_monoid.specs.Functions.{same}
use Rattle.auto_monoid.proofs.discovery.place_of.Goals as goal

pub returns-then-is_same-clause-place : goal.returns-then-is_same-clause-place
returns-then-is_same-clause-place c =
    sym (position_or_len_is (same c.args.function.now) c.args.functions.now c.loop-place.place []
    (omega arith) c.loop-place.invariant
    (λ below.
    ap (same c.args.function.now)
    (get_or_default c.args.functions.now c.loop-place.place [] c.index-functions-place.result below
    ∙ sym c.index-functions-place.is)
    ∙ sym c.is_same.ensures ∙ c.if-is_same.true))

pub loop-place-preserved : goal.loop-place-preserved
loop-place-preserved c =
    below_more _ _ c.loop-place.invariant
    (ap (same c.args.function.now)
    (get_or_default c.args.functions.now c.loop-place.place [] c.index-functions-place.result c.loop-place-test.true
    ∙ sym c.index-functions-place.is)
    ∙ sym c.is_same.ensures ∙ c.if-is_same.false)

pub returns-clause-place : goal.returns-clause-place
returns-clause-place c =
    sym (position_or_len_is (same c.args.function.now) c.args.functions.now _ []
    (omega arith) (λ k below. c.loop-place.invariant k (omega arith)) (λ below. absurd (omega arith)))
