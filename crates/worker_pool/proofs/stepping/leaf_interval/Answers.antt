use Rattle.std.proofs.Common.{◌-◌, length, arith}
use Rattle.worker_pool.proofs.Bounds.{place_below}
use Rattle.worker_pool.proofs.stepping.leaf_interval.Goals as goal

pub returns-clause-few : goal.returns-clause-few
returns-clause-few c =
    let last = length c.args.bounds.now - 1 in
    omega (
      arith,
      place_below c.args.bounds.now c.requires.rises last (omega (arith, c.requires.number)),
      c.type_inv.bounds last,
    )
