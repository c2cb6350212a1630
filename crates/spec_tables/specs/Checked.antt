-- What the check of one table gives, and which of two faults is told.
use Rattle.std.specs.Prelude.{◌≡◌, ℕ, ◌<◌, nat_lt, if◌then◌else◌, List, length, slice_index_or, Result, Ok, Err}
use Rattle.std.specs.Prelude.{Option, Some, None, option_map, []}
use Rattle.gta_checked.specs.declared.resolved.Table.{Table}
use Rattle.gta_checked.specs.Plain.{plain_named}
use Rattle.gta_spec.specs.Parts.{TableTree, PartTree}
use Rattle.spec_tables.specs.declared.fault.TablesFault.{TablesFault}
use Rattle.spec_tables.specs.declared.fault.TablesFault.TheVariants.{UnitFails, NotAssociative, NotSquare, Memory}
use Rattle.spec_tables.specs.declared.products.Square.{Square}
use Rattle.spec_tables.specs.declared.products.Square.TheVariants as squares
use Rattle.monoid_kit.specs.Table.{PlainTable}
use Rattle.monoid_kit.specs.FirstBad.{first_bad}
use Rattle.spec_tables.specs.Tables.{named_table, number_of, products_by_number}
use Rattle.spec_tables.specs.Faults.{fault_of, not_square_at, told_law}

-- the table of these products
abbrev pub square_of : TableTree → List ℕ → PlainTable
square_of table cells =
    record { size = length table.elements; unit = number_of table.elements table.unit; cells = cells }

-- the cells of a square table, or the number of the first element at which it isn't square
abbrev pub IsSquare : List PartTree → TableTree → Square → Type 0
IsSquare parts table (squares.Cells cells) =
    (not_square_at parts table ≡ None) × (cells.items ≡ (products_by_number parts table).cells)
IsSquare parts table (squares.NotAt number) =
    (number < length table.elements) × (not_square_at parts table ≡ Some (slice_index_or table.elements number []))

-- the table by its numbers, or its fault
abbrev pub IsChecked : List PartTree → TableTree → Result Table TablesFault → Type 0
IsChecked parts table (Ok made) = (fault_of parts table ≡ None) × (plain_named made ≡ named_table parts table)
IsChecked parts table (Err fault) = fault_of parts table ≡ Some fault

-- a table of these products, or the first law that they break
abbrev pub IsLawful : TableTree → List ℕ → Result Table TablesFault → Type 0
IsLawful table cells (Ok made) =
    (first_bad (square_of table cells) ≡ None)
    × (plain_named made ≡ record { name = table.name; elements = table.elements; products = square_of table cells })
IsLawful table cells (Err fault) = option_map (told_law table) (first_bad (square_of table cells)) ≡ Some fault

-- faults of the unit come first, then triples
abbrev pub rank : TablesFault → ℕ
rank (UnitFails table element left) = 0
rank (NotAssociative table a b c) = 1
rank (NotSquare table element) = 2
rank Memory = 2

-- the one of the lower rank, and of the same rank the earlier one
abbrev pub earlier : Option TablesFault → TablesFault → TablesFault
earlier None fault = fault
earlier (Some first) fault = if nat_lt (rank fault) (rank first) then fault else first
