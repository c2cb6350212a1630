use Rattle.fuse_core.proofs.Reading.{if_ok-both}
use Rattle.fuse_core.proofs.Leaves.{both-value}
use Rattle.fuse_core.proofs.plan.PlanMaps.both.Goals as goal

pub returns-clause-shows : goal.returns-clause-shows
returns-clause-shows g c =
    rw (← c.self.view_is) (if_ok-both _ _ _
    (λ z fits value cs ds xs ys. both-value (g.met.K.Kit.Semiring.laws (g.K.MapKit.kit c.self.inside.kit))
    (g.met.K.Keys.Monoid.laws (g.K.MapKit.keys c.self.inside.kit))
    (g.K.MapKit.fits c.self.inside.kit) (g.K.MapKit.value_at c.self.inside.kit)
    c.self.inside.shape c.self.inside.rows c.self.inside.labels c.self.inside.letters.items c.self.invariant
    cs ds c.args.a c.args.b z xs ys fits value)
    c.sum.result c.sum.ensures.fits c.sum.ensures.value)
