use Rattle.std.proofs.Common.{◌≡◌, ◌∙◌, sym, ap, subst, ◌+◌, ◌-◌, ◌*◌, ◌<◌, ◌≤◌, length, map, arith}
use Rattle.fuse_core.specs.Wirings.{wires_on, all_shifts}
use Rattle.fuse_core.specs.Places.{ShowEach}
use Rattle.fuse_core.proofs.Costs.{row-cost, leaf-cost}
use Rattle.fuse_core.proofs.Wired.{lists_at, brings, shape-shifts, width, made-grows, made-brings, none-shown}
use Rattle.fuse_core.proofs.Wired.{grown-shown}
use Rattle.fuse_core.proofs.Planned.{shown, permuted, places-fit, places-follow, places-stand}
use Rattle.fuse_core.proofs.plan.PlanFused.leaf.Goals as goal

pub loop-row-init : goal.loop-row-init
loop-row-init g c =
    let p = c.args.self.now in
    let laws = g.met.K.Kit.Semiring.laws (g.K.MapKit.kit p.kit) in
    let monoid = g.met.K.Keys.Monoid.laws (g.K.MapKit.keys p.kit) in
    let fits = g.K.MapKit.fits p.kit in
    let value_at = g.K.MapKit.value_at p.kit in
    let has = c.components.ensures.is_lawful in
    let made = c.in_ok-wiring.wiring.items in
    let is = c.in_ok-wiring.ensures.made in
    let shows = shown laws monoid fits value_at p.shape p.rows p.labels p.letters has in
    let count = c.in_ok-maps.ensures.count ∙ ap length c.deref.ensures.value in
    record {
      order = c.requires.ordered;
      below = omega arith;
      count = count;
      shows = none-shown p.shape p.labels made is shows c.in_ok-maps.maps.items count
          (rw c.deref.ensures.value at c.in_ok-maps.ensures.shows) c.args.hi;
      cost = omega arith;
    }

pub with_row-requires : goal.with_row-requires
with_row-requires g c =
    let p = c.args.self.now in
    let laws = g.met.K.Kit.Semiring.laws (g.K.MapKit.kit p.kit) in
    let monoid = g.met.K.Keys.Monoid.laws (g.K.MapKit.keys p.kit) in
    let fits = g.K.MapKit.fits p.kit in
    let value_at = g.K.MapKit.value_at p.kit in
    let has = c.components.ensures.is_lawful in
    let made = c.in_ok-wiring.wiring.items in
    let is = c.in_ok-wiring.ensures.made in
    let shows = shown laws monoid fits value_at p.shape p.rows p.labels p.letters has in
    let maps = c.loop-row.maps.items in
    let row = c.loop-row.row - 1 in
    let above = c.loop-row-test.true in
    let below = c.loop-row.invariant.below in
    let within = c.requires.within in
    let next : c.loop-row.row ≡ row + 1 = omega (arith, above) in
    let later = subst (λ n. ShowEach shows (lists_at p.shape p.labels n c.args.hi) maps) next
    c.loop-row.invariant.shows in
    record {
      row_in_range = omega (arith, above, below, within);
      one_a_component = c.loop-row.invariant.count ∙ sym (ap length c.deref-in-loop-row.ensures.value);
      wires_grow = rw c.deref-in-loop-row.ensures.value
          (made-grows p.shape p.labels made is has.some_label (length maps)
          (c.loop-row.invariant.count ∙ width p.shape p.labels made is));
      later_fit = places-fit laws monoid fits value_at p.shape p.rows p.labels p.letters has maps (row + 1) c.args.hi
          later;
      follow = places-follow laws monoid fits value_at p.shape p.rows p.labels p.letters has maps row c.args.hi
          (omega (arith, above, below)) within later;
    }

pub loop-row-preserved : goal.loop-row-preserved
loop-row-preserved g c =
    let p = c.args.self.now in
    let laws = g.met.K.Kit.Semiring.laws (g.K.MapKit.kit p.kit) in
    let monoid = g.met.K.Keys.Monoid.laws (g.K.MapKit.keys p.kit) in
    let fits = g.K.MapKit.fits p.kit in
    let value_at = g.K.MapKit.value_at p.kit in
    let has = c.components.ensures.is_lawful in
    let made = c.in_ok-wiring.wiring.items in
    let is = c.in_ok-wiring.ensures.made in
    let shows = shown laws monoid fits value_at p.shape p.rows p.labels p.letters has in
    let maps = c.loop-row.maps.items in
    let row = c.loop-row.row - 1 in
    let above = c.loop-row-test.true in
    let order = c.loop-row.invariant.order in
    let below = c.loop-row.invariant.below in
    let next : c.loop-row.row ≡ row + 1 = omega (arith, above) in
    let row_below : row < c.args.hi = omega (arith, above, below) in
    let later = subst (λ n. ShowEach shows (lists_at p.shape p.labels n c.args.hi) maps) next
    c.loop-row.invariant.shows in
    let count = c.in_ok-maps-2.ensures.count ∙ ap length c.deref-in-loop-row.ensures.value in
    let few = subst (λ w. all_shifts w ≤ 4 * (p.labels + 1)) (sym is) (shape-shifts p.shape p.labels) in
    let size = g.K.Keys.Monoid.size (g.K.MapKit.keys p.kit) in
    let fewer : (c.args.hi - c.loop-row.row) + 1 ≤ c.args.hi - row = omega (arith, order, below, above) in
    record {
      order = omega (arith, order, above);
      below = omega (arith, below);
      count = count;
      shows = grown-shown p.shape p.labels made is shows c.in_ok-maps-2.maps.items count
          (permuted laws monoid fits value_at p.shape p.rows p.labels p.letters has) row c.args.hi row_below
          ((rw c.deref-in-loop-row.ensures.value at c.in_ok-maps-2.ensures.shows)
          (lists_at p.shape p.labels (row + 1) c.args.hi)
          (brings p.shape p.labels row c.args.hi) (made-brings p.shape p.labels made is row c.args.hi row_below) later);
      cost = leaf-cost size p.labels (c.args.hi - c.loop-row.row) (c.args.hi - row) c.args.steps.now c.loop-row.steps
          c.with_row.new.steps
          fewer c.loop-row.invariant.cost
          (row-cost (all_shifts (map wires_on made)) size p.labels c.loop-row.steps c.with_row.new.steps few
          (rw c.deref-in-loop-row.ensures.value at c.in_ok-maps-2.ensures.cost));
    }

pub returns-in_err-maps-2-clause-cost : goal.returns-in_err-maps-2-clause-cost
returns-in_err-maps-2-clause-cost g c =
    let p = c.args.self.now in
    let made = c.in_ok-wiring.wiring.items in
    let is = c.in_ok-wiring.ensures.made in
    let above = c.loop-row-test.true in
    let order = c.loop-row.invariant.order in
    let below = c.loop-row.invariant.below in
    let few = subst (λ w. all_shifts w ≤ 4 * (p.labels + 1)) (sym is) (shape-shifts p.shape p.labels) in
    let size = g.K.Keys.Monoid.size (g.K.MapKit.keys p.kit) in
    let fewer : (c.args.hi - c.loop-row.row) + 1 ≤ c.args.hi - c.args.lo = omega (arith, order, below, above) in
    leaf-cost size p.labels (c.args.hi - c.loop-row.row) (c.args.hi - c.args.lo) c.args.steps.now c.loop-row.steps
    c.with_row.new.steps
    fewer c.loop-row.invariant.cost
    (row-cost (all_shifts (map wires_on made)) size p.labels c.loop-row.steps c.with_row.new.steps few
    (rw c.deref-in-loop-row.ensures.value at c.in_err-maps-2.ensures.cost))

pub returns : goal.returns
returns g c =
    let p = c.args.self.now in
    let laws = g.met.K.Kit.Semiring.laws (g.K.MapKit.kit p.kit) in
    let monoid = g.met.K.Keys.Monoid.laws (g.K.MapKit.keys p.kit) in
    let fits = g.K.MapKit.fits p.kit in
    let value_at = g.K.MapKit.value_at p.kit in
    let has = c.components.ensures.is_lawful in
    let made = c.in_ok-wiring.wiring.items in
    let is = c.in_ok-wiring.ensures.made in
    let shows = shown laws monoid fits value_at p.shape p.rows p.labels p.letters has in
    let maps = c.loop-row.maps.items in
    let order = c.loop-row.invariant.order in
    let end = c.loop-row-test.false in
    let first : c.loop-row.row ≡ c.args.lo = omega (arith, order, end) in
    let size = g.K.Keys.Monoid.size (g.K.MapKit.keys p.kit) in
    record {
      stands = places-stand laws monoid fits value_at p.shape p.rows p.labels p.letters has maps c.args.lo c.args.hi
          (c.loop-row.invariant.count ∙ width p.shape p.labels made is)
          (subst (λ n. ShowEach shows (lists_at p.shape p.labels n c.args.hi) maps) first c.loop-row.invariant.shows);
      cost = subst (λ n. c.loop-row.steps ≤ c.args.steps.now + 4 * (c.args.hi - n) * size * (p.labels + 1)) first
          c.loop-row.invariant.cost;
    }
