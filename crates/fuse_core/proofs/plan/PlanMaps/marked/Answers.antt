use Rattle.fuse_core.proofs.Reading.{if_ok-both}
use Rattle.fuse_core.proofs.Leaves.{letter-is_good, letter-key, marked-value}
use Rattle.fuse_core.proofs.plan.PlanMaps.marked.Goals as goal

pub copy-requires : goal.copy-requires
copy-requires g c = rw c.kit.ensures
    (letter-is_good (g.met.K.Kit.Semiring.laws (g.K.MapKit.kit c.self.inside.kit))
    (g.met.K.Keys.Monoid.laws (g.K.MapKit.keys c.self.inside.kit))
    (g.K.MapKit.fits c.self.inside.kit) (g.K.MapKit.value_at c.self.inside.kit)
    c.self.inside.shape c.self.inside.rows c.self.inside.labels c.self.inside.letters.items c.self.invariant
    c.args.row c.args.label c.index-letter.result.now
    (rw (← c.self.view_is) at c.requires.row_in_range) (rw (← c.self.view_is) at c.requires.label_in_range)
    c.index-letter.ensures)

pub single-requires-clause-key_is_element : goal.single-requires-clause-key_is_element
single-requires-clause-key_is_element g c =
    letter-key (g.met.K.Kit.Semiring.laws (g.K.MapKit.kit c.self.inside.kit))
    (g.met.K.Keys.Monoid.laws (g.K.MapKit.keys c.self.inside.kit))
    (g.K.MapKit.fits c.self.inside.kit) (g.K.MapKit.value_at c.self.inside.kit)
    c.self.inside.shape c.self.inside.rows c.self.inside.labels c.self.inside.letters.items c.self.invariant
    c.args.row c.args.label c.index-letter.result.now
    (rw (← c.self.view_is) at c.requires.row_in_range) (rw (← c.self.view_is) at c.requires.label_in_range)
    c.index-letter.ensures

pub single-requires-clause-elem_is_good : goal.single-requires-clause-elem_is_good
single-requires-clause-elem_is_good g c = rw c.in_ok-elem.ensures
    (letter-is_good (g.met.K.Kit.Semiring.laws (g.K.MapKit.kit c.self.inside.kit))
    (g.met.K.Keys.Monoid.laws (g.K.MapKit.keys c.self.inside.kit))
    (g.K.MapKit.fits c.self.inside.kit) (g.K.MapKit.value_at c.self.inside.kit)
    c.self.inside.shape c.self.inside.rows c.self.inside.labels c.self.inside.letters.items c.self.invariant
    c.args.row c.args.label c.index-letter.result.now
    (rw (← c.self.view_is) at c.requires.row_in_range) (rw (← c.self.view_is) at c.requires.label_in_range)
    c.index-letter.ensures)

pub returns-clause-shows : goal.returns-clause-shows
returns-clause-shows g c =
    rw (← c.self.view_is) (if_ok-both _ _ _
    (λ z fits value. marked-value (g.met.K.Kit.Semiring.laws (g.K.MapKit.kit c.self.inside.kit))
    (g.met.K.Keys.Monoid.laws (g.K.MapKit.keys c.self.inside.kit))
    (g.K.MapKit.fits c.self.inside.kit) (g.K.MapKit.value_at c.self.inside.kit)
    c.self.inside.shape c.self.inside.rows c.self.inside.labels c.self.inside.letters.items c.self.invariant
    c.args.row c.args.label c.index-letter.result.now c.in_ok-elem.elem z
    (rw (← c.self.view_is) at c.requires.row_in_range) (rw (← c.self.view_is) at c.requires.label_in_range)
    c.index-letter.ensures
    c.in_ok-elem.ensures fits value)
    c.single.result c.single.ensures.fits c.single.ensures.value)
