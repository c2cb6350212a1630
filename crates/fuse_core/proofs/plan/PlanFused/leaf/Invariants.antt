use Rattle.std.proofs.Common.{◌≡◌, ◌+◌, ◌-◌, ◌*◌, ◌≤◌, length}
use Rattle.fuse_core.specs.Letters.{key_of, weight_of}
use Rattle.fuse_core.specs.Stands.{Shows}
use Rattle.fuse_core.specs.Places.{ShowEach}
use Rattle.fuse_core.proofs.Wired.{lists_at}
use Rattle.fuse_core.proofs.plan.PlanFused.leaf.Given as goal

abbrev pub invariant-loop-row : goal.invariant-loop-row
invariant-loop-row g l = record {
  order : l.lo ≤ l.row;
  below : l.row ≤ l.hi;
  count : length l.maps.items ≡ length l.wiring.items;
  shows : ShowEach
      (λ lists m. Shows (g.K.Kit.Semiring.ring (g.K.MapKit.kit l.self.kit))
      (key_of (g.K.Keys.Monoid.unit (g.K.MapKit.keys l.self.kit)) (g.K.Keys.Monoid.mul (g.K.MapKit.keys l.self.kit))
      l.self.labels l.self.letters)
      (weight_of (g.K.Kit.Semiring.ring (g.K.MapKit.kit l.self.kit)) l.self.labels l.self.letters)
      (g.K.MapKit.fits l.self.kit)
      (g.K.MapKit.value_at l.self.kit) lists m)
      (lists_at l.self.shape l.self.labels l.row l.hi) l.maps.items;
  cost : l.steps ≤ l.fn.steps + 4 * (l.hi - l.row) * g.K.Keys.Monoid.size (g.K.MapKit.keys l.self.kit) *
      (l.self.labels + 1);
}
