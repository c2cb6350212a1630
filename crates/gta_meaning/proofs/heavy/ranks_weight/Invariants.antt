use Rattle.std.proofs.Common.{◌≡◌, ◌≤◌, max, map, take}
use Rattle.std.specs.List.{fold}
use Rattle.gta_checked.specs.PlainRows.{plain_rows}
use Rattle.gta_meaning.specs.declared.values.TheConstants.{VALUE_BOUND}
use Rattle.gta_meaning.specs.Heavy.{rank_measures, row_weight}
use Rattle.gta_meaning.proofs.heavy.ranks_weight.Given as goal

abbrev pub invariant-loop-rank : goal.invariant-loop-rank
invariant-loop-rank l = record {
  so_far : l.greatest
      ≡ row_weight l.checked (plain_rows l.rows) (rank_measures (take l.rank-index l.ranks)) l.row;
  within : l.greatest ≤ VALUE_BOUND;
}
