-- The second run goes on where the first ends.
use Rattle.std.proofs.Common.{arith}
use Rattle.mark_runs.proofs.Neighbours.{neighbours-joined}
use Rattle.mark_runs.proofs.run.Run.and_on.Goals as goal

pub returns : goal.returns
returns c =
    let a = c.args.self in
    let b = c.args.other in
    neighbours-joined a.row a.count b.count b.row a.label b.label c.in_ok-count.count
    (omega arith) (omega arith) (omega arith)
