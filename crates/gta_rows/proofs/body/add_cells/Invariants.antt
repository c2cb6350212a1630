use Rattle.std.proofs.Common.{◌≡◌, ◌+◌, ◌++◌, length, take}
use Rattle.std.specs.Prelude.{IsTrue}
use Rattle.std.specs.List.{filter_map, list_all, position_or_len}
use Rattle.gta_checked.specs.Cells.{is_cell}
use Rattle.gta_rows.specs.Fields.{trimmed_fields, cell_at, has_no_cell}
use Rattle.gta_rows.proofs.body.add_cells.Given as goal

abbrev pub invariant-loop-column : goal.invariant-loop-column
invariant-loop-column l = record {
  so_far : position_or_len (has_no_cell (trimmed_fields l.row)) (take l.column l.columns) ≡ l.column;
  cells : IsTrue l.keep
      → l.cells.items ≡ l.fn.cells.items ++ filter_map (cell_at (trimmed_fields l.row)) (take l.column l.columns);
  count : IsTrue l.keep → length l.cells.items ≡ length l.fn.cells.items + l.column;
  within : IsTrue (list_all is_cell l.fn.cells.items) → IsTrue (list_all is_cell l.cells.items);
}
