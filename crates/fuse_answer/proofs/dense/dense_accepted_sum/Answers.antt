-- The cut has few leaves.
use Rattle.std.proofs.Common.{arith}
use Rattle.fuse_answer.proofs.FewLeaves.{even_cut-few}
use Rattle.fuse_answer.proofs.dense.dense_accepted_sum.Goals as goal

pub solve-requires-clause-leaves : goal.solve-requires-clause-leaves
solve-requires-clause-leaves g c κs within =
    let few = even_cut-few c.rows.result c.args.crew.now.leaf c.args.crew.now.some_rows in
    rw (c.in_ok-cut.ensures.bounds) (omega (arith, few, c.rows.ensures, c.requires.few))
