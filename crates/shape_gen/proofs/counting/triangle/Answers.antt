use Rattle.std.proofs.Common.{arith}
use Rattle.shape_gen.proofs.Counts.{triangle-product}
use Rattle.shape_gen.proofs.counting.triangle.Goals as goal

pub returns-clause-value : goal.returns-clause-value
returns-clause-value c =
    rw (← c.from-n.ensures) (let product = triangle-product c.from-n.result in omega (arith, product))
