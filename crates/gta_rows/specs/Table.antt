-- The rows of a table: its records, the places of the declared columns, their cells, and the first
-- fault in the order of the refusals.
use Rattle.std.specs.Prelude.{◌≡◌, ℕ, ◌+◌, ◌-◌, ℤ, not, List, [], ◌∷◌, length, drop, map, ◌==◌, nat_lt}
use Rattle.std.specs.Prelude.{if◌then◌else◌, slice_get, slice_index_or, Option, Some, None}
use Rattle.std.specs.Prelude.{option_map, unwrap_or, Result, Ok}
use Rattle.std.specs.List.{count_by, enumerate_from, filter_map, find, flat_map, position}
use Rattle.std.specs.List.{position_or_len}
use Rattle.std.specs.Option.{option_or}
use Rattle.std.specs.Str.{bytes_eq}
use Rattle.csv.specs.Reading.{default_config, records, strip_bom}
use Rattle.outcome_kit.specs.Outcome.{unless}
use Rattle.gta_text.specs.Text.{mark_length}
use Rattle.gta_spec.specs.Versions.{row_limit}
use Rattle.gta_spec.specs.declared.parts.ColumnItem.{ColumnItem}
use Rattle.gta_checked.specs.declared.rows.Rows.{Rows}
use Rattle.gta_checked.specs.PlainRows.{PlainRows}
use Rattle.gta_rows.specs.Fields.{Record, trimmed_record, cell_at, has_no_cell}
use Rattle.gta_rows.specs.declared.fault.RowsFault.{RowsFault}
use Rattle.gta_rows.specs.declared.fault.RowsFault.TheVariants.{NoHeader, Missing, ColumnTwice}
use Rattle.gta_rows.specs.declared.fault.RowsFault.TheVariants.{Length, Field, TooMany, Memory}

-- the records that csv reads behind one mark EF BB BF, trimmed; csv itself drops one mark more
unfoldable pub table_records : List ℕ → List Record
table_records bytes =
    map trimmed_record (records default_config (strip_bom (drop (mark_length bytes) bytes)))

-- the text that a column has in the header
abbrev pub header_text : ColumnItem → List ℕ
header_text item = unwrap_or item.header item.name

-- how many fields of the header are the text, and the number of the first
abbrev pub times_in : Record → List ℕ → ℕ
times_in header text = count_by (λ field. bytes_eq field text) header

abbrev pub place_in : Record → List ℕ → ℕ
place_in header text = position_or_len (λ field. bytes_eq field text) header

-- where the cells of the columns stand in each record
abbrev pub places : Record → List ColumnItem → List ℕ
places header items = map (λ item. place_in header (header_text item)) items

-- a declared column that the header lacks, and one that it has more than once; the first declared
unfoldable pub missing : Record → List ColumnItem → Option RowsFault
missing header items =
    option_map (λ item. Missing item.name)
    (find (λ item. times_in header (header_text item) == 0) items)

unfoldable pub twice : Record → List ColumnItem → Option RowsFault
twice header items =
    option_map (λ item. ColumnTwice item.name)
    (find (λ item. nat_lt 1 (times_in header (header_text item))) items)

-- the first record with another number of fields than the header
unfoldable pub wrong_length : ℕ → List Record → Option RowsFault
wrong_length width records =
    option_map (λ at. Length at.0 (length at.1) width)
    (find (λ at. not (length at.1 == width)) (enumerate_from 0 records))

-- the record's number and that of its first column without a cell
abbrev pub bad_cell : List ℕ → ℕ × Record → Option (ℕ × ℕ)
bad_cell columns at =
    option_map (λ column. (at.0, column))
    (position (has_no_cell at.1) columns)

-- the first of these over all records
unfoldable pub first_bad_cell : List ℕ → List Record → Option (ℕ × ℕ)
first_bad_cell columns records =
    slice_get (filter_map (bad_cell columns) (enumerate_from 0 records)) 0

abbrev pub column_name : List ColumnItem → ℕ → List ℕ
column_name items column = slice_index_or (map (λ item. item.name) items) column []

abbrev pub no_cell : List ColumnItem → Option (ℕ × ℕ) → Option RowsFault
no_cell items bad = option_map (λ at. Field at.0 (column_name items at.1)) bad

-- more rows than the version allows
abbrev pub too_many : ℕ → ℕ → Option RowsFault
too_many version count =
    if nat_lt (row_limit version) count then Some (TooMany (row_limit version)) else None

-- the first fault of the records behind the header, each looked for over all of them
unfoldable pub fault_behind : ℕ → Record → List ColumnItem → List Record → Option RowsFault
fault_behind version header items records =
    option_or (wrong_length (length header) records)
    (option_or (no_cell items (first_bad_cell (places header items) records))
    (too_many version (length records)))

-- the first fault of the records, the first of which is the header
unfoldable pub records_fault : ℕ → List ColumnItem → List Record → Option RowsFault
records_fault version items [] = Some NoHeader
records_fault version items (header ∷ records) =
    option_or (missing header items)
    (option_or (twice header items) (fault_behind version header items records))

-- the first fault of a table in a version, or none
abbrev pub table_fault : ℕ → List ColumnItem → List ℕ → Option RowsFault
table_fault version items bytes = records_fault version items (table_records bytes)

-- the cells of the columns, record by record
unfoldable pub cells_of : List ℕ → List Record → List ℤ
cells_of columns records = flat_map (λ fields. filter_map (cell_at fields) columns) records

unfoldable pub cells_in : List ColumnItem → List Record → List ℤ
cells_in items [] = []
cells_in items (header ∷ records) = cells_of (places header items) records

abbrev pub table_cells : List ColumnItem → List ℕ → List ℤ
table_cells items bytes = cells_in items (table_records bytes)

-- the rows are those of the table: all records behind the header, with the cells of the columns
pub record IsTableOf (items : List ColumnItem) (bytes : List ℕ) (rows : Rows) : Type 0 where
  pub count : rows.count + 1 ≡ length (table_records bytes)
  pub columns : rows.columns ≡ length items
  pub cells : rows.cells.items ≡ table_cells items bytes

-- the rows of a table without a fault: the records behind the header, with the cells of the columns
abbrev pub rows_of : List ColumnItem → List ℕ → PlainRows
rows_of items bytes = record {
  count = length (table_records bytes) - 1;
  columns = length items;
  cells = table_cells items bytes;
}

-- the rows of a table, unless it has a fault
abbrev pub table_outcome : ℕ → List ColumnItem → List ℕ → Result PlainRows RowsFault
table_outcome version items bytes = unless (table_fault version items bytes) (Ok (rows_of items bytes))

-- the fault that an end tells of; want of memory is none
abbrev pub fault_in : RowsFault → Option RowsFault
fault_in Memory = None
fault_in fault = Some fault
