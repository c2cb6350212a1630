use Rattle.std.proofs.Common.{arith}
use Rattle.mark_runs.proofs.Neighbours.{neighbours-cut}
use Rattle.mark_runs.proofs.run.Run.behind.Goals as goal

pub returns : goal.returns
returns c = neighbours-cut c.args.count c.args.self.count c.args.self.row c.args.self.label (omega arith)
