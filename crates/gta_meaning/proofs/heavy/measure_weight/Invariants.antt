use Rattle.std.proofs.Common.{◌≡◌, ◌≤◌, max, nat_abs, map}
use Rattle.std.specs.List.{fold, range_with_len}
use Rattle.gta_checked.specs.PlainRows.{plain_rows}
use Rattle.gta_meaning.specs.declared.values.TheConstants.{VALUE_BOUND}
use Rattle.gta_meaning.specs.Values.{value}
use Rattle.gta_meaning.proofs.heavy.measure_weight.Given as goal

abbrev pub invariant-loop-label : goal.invariant-loop-label
invariant-loop-label l = record {
  so_far : l.greatest ≡ fold max 0
      (map (λ label. nat_abs (value l.checked (plain_rows l.rows) l.measure l.row label)) (range_with_len 0 l.label));
  within : l.greatest ≤ VALUE_BOUND;
}
