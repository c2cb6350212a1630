use Rattle.std.proofs.Common.{◌≡◌, ◌≤◌, ◌+◌, ◌-◌, ◌++◌}
use Rattle.drill_texts.specs.Drills.{table_text}
use Rattle.drill_texts.proofs.table.push_table.Given as goal

-- the table as far as the row before this one
abbrev pub invariant-rows : goal.invariant-rows
invariant-rows l = record {
  some : 1 ≤ l.row;
  within : l.row ≤ l.rows + 1;
  so_far : l.text.items ≡ l.fn.text.items ++ table_text l.seed (l.row - 1);
}
