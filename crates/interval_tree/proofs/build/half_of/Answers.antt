use Rattle.std.proofs.Common.{◌-◌, arith}
use Rattle.interval_tree.proofs.Heights.{half_fits, pow_twice}
use Rattle.interval_tree.proofs.build.half_of.Goals as goal

pub returns-clause-half : goal.returns-clause-half
returns-clause-half c = half_fits (c.args.level - 1) (omega arith)

pub returns-clause-twice : goal.returns-clause-twice
returns-clause-twice c =
    omega (arith, half_fits (c.args.level - 1) (omega arith), pow_twice c.args.level c.requires.some_level)
