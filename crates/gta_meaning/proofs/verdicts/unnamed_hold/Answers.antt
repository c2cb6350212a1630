use Rattle.std.proofs.Common.{◌≡◌, false, sym, arith}
use Rattle.gta_meaning.proofs.KeptBy.{is_met, unnamed-fails, unnamed-hold}
use Rattle.gta_meaning.proofs.verdicts.unnamed_hold.Goals as goal
use Rattle.gta_meaning.proofs.verdicts.unnamed_hold.Goals.{then-named-number, else-named-number}

pub returns-then-not-holds : goal.returns-then-not-holds
returns-then-not-holds g c =
    let outcomes = g.O.Outcomes.outcomes c.args.outcomes.now in
    let fails : is_met c.args.named.now outcomes c.loop-number.number ≡ false = elim c.if-named-number.branch [
      | then-named-number w ↦ grind arith
      | else-named-number w ↦ grind arith
    ] in
    sym (unnamed-fails c.args.named.now outcomes c.loop-number.number c.requires.whole c.loop-number-test.true fails)

pub returns : goal.returns
returns g c =
    sym (unnamed-hold c.args.named.now (g.O.Outcomes.outcomes c.args.outcomes.now) c.requires.whole
    (λ k below. c.loop-number.invariant k (omega (arith, c.loop-number-test.false))))
