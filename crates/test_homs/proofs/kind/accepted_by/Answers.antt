use Rattle.std.proofs.Common.{[]}
use Rattle.test_homs.proofs.Pieces.{items-more}
use Rattle.test_homs.proofs.kind.accepted_by.Goals as goal

pub loop-element-preserved : goal.loop-element-preserved
loop-element-preserved g c =
    items-more (g.K.Kind.hom c.args.kind.now).accepts [] _ _ _ _
    c.loop-element.invariant c.in_ok-push.ensures.items c.accepts.ensures
