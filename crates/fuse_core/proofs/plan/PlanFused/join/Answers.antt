use Rattle.std.proofs.Common.{◌∙◌, sym, ap, subst, ◌≤◌, length, map}
use Rattle.fuse_core.specs.Wirings.{wires_on, all_crossings}
use Rattle.fuse_core.proofs.Costs.{join-cost}
use Rattle.fuse_core.proofs.Wired.{lists_at, shape-crossings, width, made-joins, joined-shown}
use Rattle.fuse_core.proofs.Planned.{shown, permuted, stands-places, stands-count, places-fit, places-cross}
use Rattle.fuse_core.proofs.Planned.{places-stand}
use Rattle.fuse_core.proofs.plan.PlanFused.join.Goals as goal

pub joined-requires : goal.joined-requires
joined-requires g c =
    let p = c.args.self.now in
    let laws = g.met.K.Kit.Semiring.laws (g.K.MapKit.kit p.kit) in
    let monoid = g.met.K.Keys.Monoid.laws (g.K.MapKit.keys p.kit) in
    let fits = g.K.MapKit.fits p.kit in
    let value_at = g.K.MapKit.value_at p.kit in
    let has = c.components.ensures.is_lawful in
    let made = c.in_ok-wiring.wiring.items in
    let is = c.in_ok-wiring.ensures.made in
    let shows = shown laws monoid fits value_at p.shape p.rows p.labels p.letters has in
    let left = c.args.left.now.maps.items in
    let right = c.args.right.now.maps.items in
    let left_count = stands-count laws monoid fits value_at p.shape p.rows p.labels p.letters has left c.args._lo
    c.args._mid c.requires.left_stands in
    let right_count = stands-count laws monoid fits value_at p.shape p.rows p.labels p.letters has right c.args._mid
    c.args._hi c.requires.right_stands in
    let left_shows = stands-places laws monoid fits value_at p.shape p.rows p.labels p.letters has left c.args._lo
    c.args._mid c.requires.left_stands in
    let right_shows = stands-places laws monoid fits value_at p.shape p.rows p.labels p.letters has right c.args._mid
    c.args._hi c.requires.right_stands in
    record {
      same_count = rw (c.deref-2.ensures.value, c.deref-3.ensures.value) (left_count ∙ sym right_count);
      wires_join = rw (c.deref.ensures.value, c.deref-2.ensures.value)
          (made-joins p.shape p.labels made is (length left) left_count);
      left_fit = rw c.deref-2.ensures.value
          (places-fit laws monoid fits value_at p.shape p.rows p.labels p.letters has left c.args._lo c.args._mid
          left_shows);
      right_fit = rw c.deref-3.ensures.value
          (places-fit laws monoid fits value_at p.shape p.rows p.labels p.letters has right c.args._mid c.args._hi
          right_shows);
      cross = rw (c.deref-2.ensures.value, c.deref-3.ensures.value)
          (places-cross laws monoid fits value_at p.shape p.rows p.labels p.letters has left right c.args._lo
          c.args._mid c.args._hi
          c.requires.left_ordered c.requires.right_ordered c.requires.within left_shows right_shows);
    }

pub returns-in_err-maps-clause-cost : goal.returns-in_err-maps-clause-cost
returns-in_err-maps-clause-cost g c =
    let p = c.args.self.now in
    let made = c.in_ok-wiring.wiring.items in
    let few = subst (λ w. all_crossings w ≤ 4) (sym c.in_ok-wiring.ensures.made) (shape-crossings p.shape p.labels) in
    join-cost (all_crossings (map wires_on made)) (g.K.Keys.Monoid.size (g.K.MapKit.keys p.kit)) c.args.steps.now
    c.joined.new.steps few
    (rw c.deref.ensures.value at c.in_err-maps.ensures.cost)

pub returns : goal.returns
returns g c =
    let p = c.args.self.now in
    let laws = g.met.K.Kit.Semiring.laws (g.K.MapKit.kit p.kit) in
    let monoid = g.met.K.Keys.Monoid.laws (g.K.MapKit.keys p.kit) in
    let fits = g.K.MapKit.fits p.kit in
    let value_at = g.K.MapKit.value_at p.kit in
    let has = c.components.ensures.is_lawful in
    let made = c.in_ok-wiring.wiring.items in
    let is = c.in_ok-wiring.ensures.made in
    let shows = shown laws monoid fits value_at p.shape p.rows p.labels p.letters has in
    let left = c.args.left.now.maps.items in
    let right = c.args.right.now.maps.items in
    let left_shows = stands-places laws monoid fits value_at p.shape p.rows p.labels p.letters has left c.args._lo
    c.args._mid c.requires.left_stands in
    let right_shows = stands-places laws monoid fits value_at p.shape p.rows p.labels p.letters has right c.args._mid
    c.args._hi c.requires.right_stands in
    let few = subst (λ w. all_crossings w ≤ 4) (sym is) (shape-crossings p.shape p.labels) in
    let count = c.in_ok-maps.ensures.count ∙ ap length c.deref.ensures.value in
    record {
      stands = places-stand laws monoid fits value_at p.shape p.rows p.labels p.letters has c.in_ok-maps.maps.items
          c.args._lo c.args._hi
          (count ∙ width p.shape p.labels made is)
          (joined-shown p.shape p.labels made is shows c.in_ok-maps.maps.items count
          (permuted laws monoid fits value_at p.shape p.rows p.labels p.letters has)
          c.args._lo c.args._mid c.args._hi c.requires.left_ordered c.requires.right_ordered
          ((rw (c.deref.ensures.value, c.deref-2.ensures.value, c.deref-3.ensures.value) at c.in_ok-maps.ensures.shows)
          (lists_at p.shape p.labels c.args._lo c.args._mid) (lists_at p.shape p.labels c.args._mid c.args._hi)
          left_shows right_shows));
      cost = join-cost (all_crossings (map wires_on made)) (g.K.Keys.Monoid.size (g.K.MapKit.keys p.kit))
          c.args.steps.now c.joined.new.steps few
          (rw c.deref.ensures.value at c.in_ok-maps.ensures.cost);
    }
