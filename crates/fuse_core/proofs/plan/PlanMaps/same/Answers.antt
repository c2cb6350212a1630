use Rattle.fuse_core.proofs.Reading.{if_ok-both}
use Rattle.fuse_core.proofs.Leaves.{same-value}
use Rattle.fuse_core.proofs.plan.PlanMaps.same.Goals as goal

pub returns-clause-shows : goal.returns-clause-shows
returns-clause-shows g c =
    rw (← c.self.view_is) (if_ok-both _ _ _
    (λ z fits value lists shown. same-value (g.met.K.Kit.Semiring.laws (g.K.MapKit.kit c.self.inside.kit))
    (g.met.K.Keys.Monoid.laws (g.K.MapKit.keys c.self.inside.kit))
    (g.K.MapKit.fits c.self.inside.kit) (g.K.MapKit.value_at c.self.inside.kit)
    c.self.inside.shape c.self.inside.rows c.self.inside.labels c.self.inside.letters.items c.self.invariant
    lists c.args.map.now z fits value shown)
    c.copy.result c.copy.ensures.fits c.copy.ensures.value)
