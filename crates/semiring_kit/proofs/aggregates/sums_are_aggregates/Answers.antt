use Rattle.semiring_kit.proofs.KitSums.{sum_counts, sum_tells, sum_is_greatest, sum_is_least, greatest_is_upper}
use Rattle.semiring_kit.proofs.KitSums.{least_is_lower, sum_is_greatest_lex, greatest_lex_is_upper}
use Rattle.semiring_kit.proofs.aggregates.sums_are_aggregates.Goals as goal

pub returns : goal.returns
returns c = record {
  count = sum_counts;
  truth = sum_tells;
  max_plus = sum_is_greatest;
  min_plus = sum_is_least;
  rank_plus = sum_is_greatest_lex;
  greatest = greatest_is_upper;
  least = least_is_lower;
  greatest_lex = greatest_lex_is_upper;
}
