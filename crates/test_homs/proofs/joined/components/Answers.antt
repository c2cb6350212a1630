use Rattle.std.proofs.Common.{refl}
use Rattle.test_homs.specs.Prepared.{PlainPrepared, plain_prepared}
use Rattle.test_homs.proofs.Lists.{map-whole}
use Rattle.test_homs.proofs.joined.components.Goals as goal

pub returns : goal.returns
returns c =
    map-whole (λ (test : PlainPrepared). test.component) plain_prepared c.args.tests.now _ c.loop-test.test-index _
    c.loop-test.invariant c.loop-test-test.false refl
