use Rattle.std.proofs.Common.{arith}
use Rattle.fuse_core.proofs.Reading.{if_ok-both}
use Rattle.fuse_core.proofs.Leaves.{letter-is_good, letter-key, letter-reach, with_before-value}
use Rattle.fuse_core.proofs.plan.PlanMaps.with_before.Goals as goal

pub with_shifted-requires : goal.with_shifted-requires
with_shifted-requires g c =
    let row_in = rw (← c.self.view_is) at c.requires.row_in_range in
    let label_in = rw (← c.self.view_is) at c.requires.label_in_range in
    record {
      into_fits = rw (← c.self.view_is) at c.requires.into_fits;
      key_is_element = letter-key (g.met.K.Kit.Semiring.laws (g.K.MapKit.kit c.self.inside.kit))
          (g.met.K.Keys.Monoid.laws (g.K.MapKit.keys c.self.inside.kit))
          (g.K.MapKit.fits c.self.inside.kit) (g.K.MapKit.value_at c.self.inside.kit)
          c.self.inside.shape c.self.inside.rows c.self.inside.labels c.self.inside.letters.items c.self.invariant
          c.args.row c.args.label c.index-letter.result.now row_in label_in c.index-letter.ensures;
      elem_is_good = letter-is_good (g.met.K.Kit.Semiring.laws (g.K.MapKit.kit c.self.inside.kit))
          (g.met.K.Keys.Monoid.laws (g.K.MapKit.keys c.self.inside.kit))
          (g.K.MapKit.fits c.self.inside.kit) (g.K.MapKit.value_at c.self.inside.kit)
          c.self.inside.shape c.self.inside.rows c.self.inside.labels c.self.inside.letters.items c.self.invariant
          c.args.row c.args.label c.index-letter.result.now row_in label_in c.index-letter.ensures;
      fits = rw (← c.self.view_is) at c.requires.later_fits;
      reaches_add_up = letter-reach (g.met.K.Kit.Semiring.laws (g.K.MapKit.kit c.self.inside.kit))
          (g.met.K.Keys.Monoid.laws (g.K.MapKit.keys c.self.inside.kit))
          (g.K.MapKit.fits c.self.inside.kit) (g.K.MapKit.value_at c.self.inside.kit)
          c.self.inside.shape c.self.inside.rows c.self.inside.labels c.self.inside.letters.items c.self.invariant
          c.args.row c.args.label c.index-letter.result.now (g.K.MapKit.value_at c.self.inside.kit c.args.later.now)
          row_in label_in c.index-letter.ensures
          (rw (← c.self.view_is) at c.requires.follows);
    }

pub returns-clause-shows : goal.returns-clause-shows
returns-clause-shows g c =
    rw (← c.self.view_is) (if_ok-both _ _ _
    (λ z fits value cs ds xs ys. with_before-value (g.met.K.Kit.Semiring.laws (g.K.MapKit.kit c.self.inside.kit))
    (g.met.K.Keys.Monoid.laws (g.K.MapKit.keys c.self.inside.kit))
    (g.K.MapKit.fits c.self.inside.kit) (g.K.MapKit.value_at c.self.inside.kit)
    c.self.inside.shape c.self.inside.rows c.self.inside.labels c.self.inside.letters.items c.self.invariant
    c.args.row c.args.label c.index-letter.result.now c.args.into c.args.later.now z
    (rw (← c.self.view_is) at c.requires.row_in_range) (rw (← c.self.view_is) at c.requires.label_in_range)
    c.index-letter.ensures
    fits value cs ds xs ys)
    c.with_shifted.result c.with_shifted.ensures.fits c.with_shifted.ensures.value)

pub returns-clause-cost : goal.returns-clause-cost
returns-clause-cost g c =
    let few = g.met.K.MapKit.few_kept c.self.inside.kit c.args.later.now
    (rw (← c.self.view_is) at c.requires.later_fits) in
    let cost = c.with_shifted.ensures.cost in
    rw (← c.self.view_is) (omega (arith, few, cost))
