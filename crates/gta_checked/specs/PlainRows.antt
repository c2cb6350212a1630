-- The rows of a table with a list in place of a vector, as definitions speak of them.
use Rattle.std.specs.Prelude.{ℕ, ℤ, List}
use Rattle.gta_checked.specs.declared.rows.Rows.{Rows}

-- so many rows of so many cells each, row by row
pub record PlainRows : Type 0 where
  pub count : ℕ
  pub columns : ℕ
  pub cells : List ℤ

abbrev pub plain_rows : Rows → PlainRows
plain_rows rows = record { count = rows.count; columns = rows.columns; cells = rows.cells.items }
