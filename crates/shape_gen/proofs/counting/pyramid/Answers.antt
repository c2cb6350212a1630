use Rattle.std.proofs.Common.{arith}
use Rattle.shape_gen.proofs.Counts.{pyramid-product}
use Rattle.shape_gen.proofs.counting.pyramid.Goals as goal

pub returns : goal.returns
returns c =
    rw (← c.from-n.ensures) (let product = pyramid-product c.from-n.result in omega (arith, product, c.from.ensures))
