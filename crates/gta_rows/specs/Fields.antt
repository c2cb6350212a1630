-- The fields of a record: how they are trimmed, and which cell stands in one.
use Rattle.std.specs.Prelude.{ℕ, ◌-◌, ℤ, Bool, not, List, length, take, drop, map, Option, is_some}
use Rattle.std.specs.Prelude.{slice_get}
use Rattle.std.specs.List.{prefix_len, suffix_len}
use Rattle.std.specs.Option.{option_and_then}
use Rattle.gta_text.specs.Tokens.{is_blank}
use Rattle.gta_text.specs.Numbers.{cell_number}
use Rattle.csv.specs.Records.{Row, fields_of}

-- the fields of a record
abbrev pub Record : Type 0
Record = List (List ℕ)

-- a field without the spaces and tabs before it, and then without those behind it
abbrev pub without_front : List ℕ → List ℕ
without_front field = drop (prefix_len is_blank field) field

abbrev pub without_back : List ℕ → List ℕ
without_back field = take (length field - suffix_len is_blank field) field

unfoldable pub trimmed : List ℕ → List ℕ
trimmed field = without_back (without_front field)

abbrev pub trimmed_record : Record → Record
trimmed_record fields = map trimmed fields

-- the trimmed fields of a record that csv gave
abbrev pub trimmed_fields : Row → Record
trimmed_fields row = trimmed_record (fields_of row)

-- the number of the cell at a place of a record
abbrev pub cell_at : Record → ℕ → Option ℤ
cell_at fields place = option_and_then cell_number (slice_get fields place)

abbrev pub has_no_cell : Record → ℕ → Bool
has_no_cell fields place = not (is_some (cell_at fields place))
