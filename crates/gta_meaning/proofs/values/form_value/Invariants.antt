use Rattle.std.proofs.Common.{◌≡◌, ◌*◌, ◌≤◌, nat_abs, take}
use Rattle.gta_checked.specs.PlainRows.{plain_rows}
use Rattle.gta_meaning.specs.declared.values.TheConstants.{TERM_BOUND}
use Rattle.gta_meaning.specs.Values as values
use Rattle.gta_meaning.proofs.values.form_value.Given as goal

abbrev pub invariant-loop-term : goal.invariant-loop-term
invariant-loop-term l = record {
  so_far : l.sum ≡ values.form_value (plain_rows l.rows) l.row (take l.term-index l.form);
  bounded : nat_abs l.sum ≤ l.term-index * TERM_BOUND;
}
