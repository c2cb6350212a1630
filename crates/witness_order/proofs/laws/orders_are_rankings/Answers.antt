use Rattle.witness_order.proofs.Orders.{shortlex-IsRanking, shortlex-KeepsRanking, before-IsRanking}
use Rattle.witness_order.proofs.Orders.{before-KeepsRanking}
use Rattle.witness_order.proofs.laws.orders_are_rankings.Goals as goal

pub returns : goal.returns
returns c = record {
  shortlex_ranks = shortlex-IsRanking;
  shortlex_kept = shortlex-KeepsRanking;
  before_ranks = before-IsRanking;
  before_kept = before-KeepsRanking;
}
