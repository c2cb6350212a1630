-- The rows of a table tell its outcome.
use Rattle.std.proofs.Common.{◌≡◌, ℕ, ◌-◌, ℤ, List, length, Option, None, Ok, sym, ap, ◌∙◌, arith}
use Rattle.outcome_kit.specs.Outcome.{unless}
use Rattle.gta_spec.specs.declared.parts.ColumnItem.{ColumnItem}
use Rattle.gta_checked.specs.declared.rows.Rows.{Rows}
use Rattle.gta_checked.specs.PlainRows.{PlainRows, plain_rows}
use Rattle.gta_rows.specs.declared.fault.RowsFault.{RowsFault}
use Rattle.gta_rows.specs.Table.{IsTableOf, rows_of, table_fault, table_outcome, table_records}

module _ (items : List ColumnItem) (bytes : List ℕ) (rows : Rows) (table : IsTableOf items bytes rows) where
  the_rows : plain_rows rows ≡ rows_of items bytes
  the_rows =
      let count : rows.count ≡ length (table_records bytes) - 1 = let more = table.count in omega (arith, more) in
      let of : ℕ → ℕ → List ℤ → PlainRows = λ n w cells. record { count = n; columns = w; cells = cells } in
      ap (λ n. of n rows.columns rows.cells.items) count
      ∙ ap (λ w. of (length (table_records bytes) - 1) w rows.cells.items) table.columns
      ∙ ap (of (length (table_records bytes) - 1) (length items)) table.cells

  pub table-tells : (version : ℕ) → table_fault version items bytes ≡ None → table_outcome version items bytes ≡ Ok
      (plain_rows rows)
  table-tells version none = ap (λ (o : Option RowsFault). unless o (Ok (rows_of items bytes))) none ∙ ap Ok
      (sym the_rows)
