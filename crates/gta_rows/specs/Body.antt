-- What is known of the records that were read behind the header.
use Rattle.std.specs.Prelude.{◌≡◌, ℕ, ◌*◌, ◌≤◌, List, length, None, IsTrue}
use Rattle.std.specs.List.{list_all}
use Rattle.gta_spec.specs.declared.limits.TheConstants.{ROW_LIMIT}
use Rattle.gta_checked.specs.Cells.{is_cell}
use Rattle.gta_rows.specs.declared.body.Body.{Body}
use Rattle.gta_rows.specs.Table.{cells_of, first_bad_cell}
use Rattle.gta_rows.specs.Fields.{Record}

pub record IsBodyOf (columns : List ℕ) (records : List Record) (body : Body) : Type 0 where
  pub count : body.count ≡ length records
  pub bad : body.bad ≡ first_bad_cell columns records
  -- the cells are whole where each place has one and the rows are not too many
  pub cells : body.bad ≡ None → body.count ≤ ROW_LIMIT
      → body.cells.items ≡ cells_of columns records
  pub whole : body.bad ≡ None → body.count ≤ ROW_LIMIT
      → length body.cells.items ≡ body.count * length columns
  pub within : IsTrue (list_all is_cell body.cells.items)
