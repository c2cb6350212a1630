use Rattle.std.proofs.Common.{◌∙◌, ap}
use Rattle.fuse_core.proofs.Reading.{if_ok-both}
use Rattle.fuse_core.proofs.Leaves.{empty-value}
use Rattle.fuse_core.proofs.plan.PlanMaps.empty.Goals as goal

pub returns-clause-shows : goal.returns-clause-shows
returns-clause-shows g c =
    rw (← c.self.view_is) (if_ok-both _ _ _
    (λ z fits value. empty-value (g.met.K.Kit.Semiring.laws (g.K.MapKit.kit c.self.inside.kit))
    (g.met.K.Keys.Monoid.laws (g.K.MapKit.keys c.self.inside.kit))
    (g.K.MapKit.fits c.self.inside.kit) (g.K.MapKit.value_at c.self.inside.kit)
    c.self.inside.shape c.self.inside.rows c.self.inside.labels c.self.inside.letters.items c.self.invariant
    c.unit-unit.result c.in_ok-one.one z (c.unit-unit.ensures ∙ ap g.K.Keys.Monoid.unit c.keys.ensures)
    (rw c.kit.ensures at c.in_ok-one.ensures) fits value)
    c.single.result c.single.ensures.fits c.single.ensures.value)
