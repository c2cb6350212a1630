use Rattle.std.proofs.Common.{◌≡◌, ◌*◌, ◌≤◌, nat_abs, take}
use Rattle.gta_checked.specs.PlainRows.{plain_rows}
use Rattle.gta_meaning.specs.declared.values.TheConstants.{VALUE_BOUND}
use Rattle.gta_meaning.specs.Values.{total}
use Rattle.gta_meaning.proofs.totals.weight_of.Given as goal

abbrev pub invariant-loop-row : goal.invariant-loop-row
invariant-loop-row l = record {
  so_far : l.sum ≡ total l.checked (plain_rows l.rows) l.measure (take l.row-index l.row-items);
  bounded : nat_abs l.sum ≤ l.row-index * VALUE_BOUND;
}
