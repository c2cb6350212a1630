use Rattle.best_k.proofs.Sums.{run_sum_is_best}
use Rattle.best_k.proofs.aggregate.run_sums_are_aggregates.Goals as goal

pub returns : goal.returns
returns g c = run_sum_is_best g.W.Weight.weights g.met.W.Weight.laws
