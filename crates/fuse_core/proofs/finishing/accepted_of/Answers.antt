use Rattle.std.proofs.Common.{ℕ}
use Rattle.fuse_core.proofs.Accepted.{sum-more, sum-is_good}
use Rattle.fuse_core.proofs.finishing.accepted_of.Goals as goal

pub loop-key-preserved : goal.loop-key-preserved
loop-key-preserved g c =
    let laws = g.met.K.Kit.Semiring.laws (g.K.MapKit.kit c.args.kit.now) in
    let x = g.K.MapKit.value_at c.args.kit.now c.args.map.now in
    let good = λ (k : ℕ). g.met.K.MapKit.value_is_good c.args.kit.now c.args.map.now k c.requires.fits in
    record {
      so_far = sum-more laws c.args.accept.now x good c.loop-key.key c.loop-key.sum c.in_ok-sum-2.sum
          c.loop-key.invariant.so_far c.in_ok-sum-2.ensures;
      is_good = sum-is_good laws c.args.accept.now x good c.loop-key.key c.loop-key.sum c.in_ok-sum-2.sum
          c.loop-key.invariant.is_good c.in_ok-sum-2.ensures;
    }
