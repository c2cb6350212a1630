-- Two proofs of one bound are equal.
use Rattle.std.proofs.Common.{◌≡◌, refl, ap}
use Rattle.std.proofs.Math.Bridge.{le_prop}
use Rattle.fuse_answer.proofs.best.BestOfQuestion.kit.Goals as goal

pub returns : goal.returns
returns c =
    let some = le_prop c.result-1.given.0 c.args.self.now.some_kept in
    let few = le_prop c.result-1.given.1.0 c.args.self.now.few_kept in
    let ranked : c.of.result ≡ record { greatest = c.args.self.now.greatest; totals = record {} } =
    ap (λ greatest. record { greatest = greatest; totals = record {} }) c.of.ensures in
    rw (ranked, some, few) refl
