use Rattle.std.proofs.Common.{[]}
use Rattle.test_homs.specs.Joined.{key_accepted}
use Rattle.test_homs.proofs.Pieces.{items-more}
use Rattle.test_homs.proofs.Digits.{plains}
use Rattle.test_homs.proofs.joined.accepted_keys.Goals as goal

pub loop-key-preserved : goal.loop-key-preserved
loop-key-preserved c =
    items-more (key_accepted c.args.checked.now (plains c.args.tests.now)) [] _ _ _ _
    c.loop-key.invariant c.in_ok-push.ensures.items c.key_accepted.ensures
