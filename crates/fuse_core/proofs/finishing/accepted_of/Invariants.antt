use Rattle.std.proofs.Common.{◌≡◌}
use Rattle.std.specs.List.{range_with_len}
use Rattle.semiring_kit.specs.Semiring.{IsGood}
use Rattle.semiring_kit.specs.Total.{total, masked}
use Rattle.fuse_core.specs.Plans.{accepts}
use Rattle.fuse_core.proofs.finishing.accepted_of.Given as goal

abbrev pub invariant-loop-key : goal.invariant-loop-key
invariant-loop-key g l = record {
  so_far : l.sum ≡ total (g.K.Kit.Semiring.ring (g.K.MapKit.kit l.kit))
      (λ k. masked (g.K.Kit.Semiring.ring (g.K.MapKit.kit l.kit)) (accepts l.accept k)
      (g.K.MapKit.value_at l.kit l.map k))
      (range_with_len 0 l.key);
  is_good : IsGood (g.K.Kit.Semiring.ring (g.K.MapKit.kit l.kit)) l.sum;
}
