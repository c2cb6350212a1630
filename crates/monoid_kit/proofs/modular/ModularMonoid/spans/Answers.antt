use Rattle.monoid_kit.proofs.Spans.{modular_sum-spans_of_zero, modular_sum-spans}
use Rattle.monoid_kit.proofs.modular.ModularMonoid.spans.Goals as goal
use Rattle.monoid_kit.proofs.modular.ModularMonoid.spans.Goals.{then-a-gt0+in_ok-push-2, else-a-gt0}

pub returns : goal.returns
returns c =
    let modulus = c.args.self.now.modulus in
    elim c.if-a-gt0.branch [
      | then-a-gt0+in_ok-push-2 w ↦
          rw (w.spans-is, w.in_ok-push-2.ensures.items, c.in_ok-push.ensures.items, c.in_ok-spans.ensures.items)
          (modular_sum-spans modulus c.args.a c.requires w.if-a-gt0.true)
      | else-a-gt0 w ↦
          rw (w.spans-is, c.in_ok-push.ensures.items, c.in_ok-spans.ensures.items)
          (modular_sum-spans_of_zero modulus c.args.a c.requires w.if-a-gt0.false)
    ]
