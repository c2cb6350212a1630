use Rattle.best_k.proofs.Sums.{sum_is_best}
use Rattle.best_k.proofs.aggregate.best_sums_are_aggregates.Goals as goal

pub returns : goal.returns
returns g c = sum_is_best g.W.Weight.weights g.met.W.Weight.laws
