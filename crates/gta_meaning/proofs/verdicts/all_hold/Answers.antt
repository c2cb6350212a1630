use Rattle.std.proofs.Common.{false, sym, ◌∙◌, arith}
use Rattle.std.proofs.lemmas.List.Folds.{list_all_at}
use Rattle.gta_meaning.proofs.KeptBy.{all-hold}
use Rattle.gta_meaning.proofs.verdicts.all_hold.Goals as goal

pub returns-then-not-holds : goal.returns-then-not-holds
returns-then-not-holds g c =
    let outcomes = g.O.Outcomes.outcomes c.args.outcomes.now in
    sym (list_all_at (λ holds. holds) outcomes c.loop-number.number false (omega (
      arith,
      c.requires.whole,
      c.loop-number-test.true,
    )) (sym c.holds.ensures ∙ c.if-not-holds.true))

pub returns : goal.returns
returns g c =
    sym (all-hold (g.O.Outcomes.outcomes c.args.outcomes.now)
    (λ k below. c.loop-number.invariant k (omega (arith, c.requires.whole, c.loop-number-test.false))))
