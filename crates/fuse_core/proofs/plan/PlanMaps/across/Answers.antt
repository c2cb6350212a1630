use Rattle.std.proofs.Common.{arith, mul-le-mul}
use Rattle.fuse_core.proofs.Reading.{if_ok-both}
use Rattle.fuse_core.proofs.Leaves.{across-value}
use Rattle.fuse_core.proofs.plan.PlanMaps.across.Goals as goal

pub returns-clause-shows : goal.returns-clause-shows
returns-clause-shows g c =
    rw (← c.self.view_is) (if_ok-both _ _ _
    (λ z fits value cs ds xs ys. across-value (g.met.K.Kit.Semiring.laws (g.K.MapKit.kit c.self.inside.kit))
    (g.met.K.Keys.Monoid.laws (g.K.MapKit.keys c.self.inside.kit))
    (g.K.MapKit.fits c.self.inside.kit) (g.K.MapKit.value_at c.self.inside.kit)
    c.self.inside.shape c.self.inside.rows c.self.inside.labels c.self.inside.letters.items c.self.invariant
    cs ds c.args.a.now c.args.b.now z fits value xs ys)
    c.convolve.result c.convolve.ensures.fits c.convolve.ensures.value)

pub returns-clause-cost : goal.returns-clause-cost
returns-clause-cost g c =
    let left = g.met.K.MapKit.few_kept c.self.inside.kit c.args.a.now (rw (← c.self.view_is) at c.requires.left_fits) in
    let right = g.met.K.MapKit.few_kept c.self.inside.kit c.args.b.now
    (rw (← c.self.view_is) at c.requires.right_fits) in
    let product = mul-le-mul left right in
    let cost = c.convolve.ensures.cost in
    rw (← c.self.view_is) (omega (arith, product, cost))
