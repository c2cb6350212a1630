use Rattle.fuse_core.proofs.Leaves.{if_ok-then}
use Rattle.fuse_core.proofs.Accepted.{finish-as_it_is, finish-with_empty}
use Rattle.fuse_core.proofs.finishing.finish.Goals as goal

pub returns-then-ending-clause-sum : goal.returns-then-ending-clause-sum
returns-then-ending-clause-sum g c =
    rw (← c.plan.view_is) (if_ok-then _ _
    (finish-with_empty (g.met.K.Kit.Semiring.laws (g.K.MapKit.kit c.plan.inside.kit))
    (g.met.K.Keys.Monoid.laws (g.K.MapKit.keys c.plan.inside.kit))
    (g.K.MapKit.fits c.plan.inside.kit) (g.K.MapKit.value_at c.plan.inside.kit)
    c.plan.inside.shape c.plan.inside.rows c.plan.inside.labels c.plan.inside.letters.items c.plan.invariant
    c.args.accept.now
    c.args.value.now.maps.items (rw (← c.plan.view_is) at c.requires.stands)
    c.index.result.now (rw c.ending_of-ending.ensures at c.index.ensures) c.in_ok-sum.sum
    c.in_ok-sum.ensures.value (rw c.ending_of-ending.ensures at c.if-ending.true))
    c.with_empty.result c.with_empty.ensures.value)

pub returns-else-ending-clause-sum : goal.returns-else-ending-clause-sum
returns-else-ending-clause-sum g c =
    rw (← c.plan.view_is)
    (finish-as_it_is (g.met.K.Kit.Semiring.laws (g.K.MapKit.kit c.plan.inside.kit))
    (g.met.K.Keys.Monoid.laws (g.K.MapKit.keys c.plan.inside.kit))
    (g.K.MapKit.fits c.plan.inside.kit) (g.K.MapKit.value_at c.plan.inside.kit)
    c.plan.inside.shape c.plan.inside.rows c.plan.inside.labels c.plan.inside.letters.items c.plan.invariant
    c.args.accept.now
    c.args.value.now.maps.items (rw (← c.plan.view_is) at c.requires.stands)
    c.index.result.now (rw c.ending_of-ending.ensures at c.index.ensures) c.in_ok-sum.sum
    c.in_ok-sum.ensures.value (rw c.ending_of-ending.ensures at c.if-ending.false))

pub returns-then-ending-clause-is_good : goal.returns-then-ending-clause-is_good
returns-then-ending-clause-is_good g c = rw (← c.plan.view_is) c.with_empty.ensures.is_good

pub returns-else-ending-clause-is_good : goal.returns-else-ending-clause-is_good
returns-else-ending-clause-is_good g c = rw (← c.plan.view_is) c.in_ok-sum.ensures.is_good
