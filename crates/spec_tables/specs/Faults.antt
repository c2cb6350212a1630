-- The faults of the tables of a specification.
use Rattle.std.specs.Prelude.{ℕ, Bool, true, false, not, List, [], map, slice_index_or, Option, Some, None}
use Rattle.std.specs.Prelude.{is_some, option_map, Result, Ok}
use Rattle.std.specs.Option.{option_or}
use Rattle.std.specs.List.{filter_map, find}
use Rattle.outcome_kit.specs.Outcome.{unless}
use Rattle.monoid_kit.specs.declared.checks.TableFault.{TableFault}
use Rattle.monoid_kit.specs.declared.checks.TableFault.TheVariants as laws
use Rattle.monoid_kit.specs.FirstBad.{first_bad}
use Rattle.gta_spec.specs.Parts.{TableTree, PartTree}
use Rattle.gta_checked.specs.Plain.{NamedTable}
use Rattle.spec_tables.specs.declared.fault.TablesFault.{TablesFault}
use Rattle.spec_tables.specs.declared.fault.TablesFault.TheVariants.{UnitFails, NotAssociative, NotSquare, Memory}
use Rattle.spec_tables.specs.Tables.{named_table, tables_in, row_of, products_by_number}

-- the first element that has no line `times`, more than one, or one with another number of products than
-- there are elements
abbrev pub not_square_at : List PartTree → TableTree → Option (List ℕ)
not_square_at parts table = find (λ element. not (is_some (row_of parts table element))) table.elements

abbrev pub element_name : TableTree → ℕ → List ℕ
element_name table number = slice_index_or table.elements number []

-- a broken law, told by the names of its elements
abbrev pub told_law : TableTree → TableFault → TablesFault
told_law table (laws.UnitFails element left) = UnitFails table.name (element_name table element) left
told_law table (laws.NotAssociative a b c) =
    NotAssociative table.name (element_name table a) (element_name table b) (element_name table c)
told_law table laws.Memory = Memory

-- where a table is square, the first law that it breaks
abbrev pub fault_at : List PartTree → TableTree → Option (List ℕ) → Option TablesFault
fault_at parts table None = option_map (told_law table) (first_bad (products_by_number parts table))
fault_at parts table (Some element) = Some (NotSquare table.name element)

-- the fault of a table: that it isn't square, or else the first law that it breaks
abbrev pub fault_of : List PartTree → TableTree → Option TablesFault
fault_of parts table = fault_at parts table (not_square_at parts table)

abbrev pub is_of_unit : TablesFault → Bool
is_of_unit (UnitFails table element left) = true
is_of_unit _ = false

abbrev pub is_of_triple : TablesFault → Bool
is_of_triple (NotAssociative table a b c) = true
is_of_triple _ = false

-- of these faults, in the order of their tables, the first unit that fails, or else the first triple, or else
-- the first at all, a table that isn't square
unfoldable pub first_told : List TablesFault → Option TablesFault
first_told faults =
    option_or (find is_of_unit faults) (option_or (find is_of_triple faults) (find (λ fault. true) faults))

-- the fault of the tables that counts, or none
unfoldable pub tables_fault : List PartTree → Option TablesFault
tables_fault parts = first_told (filter_map (fault_of parts) (tables_in parts))

-- the tables by their numbers, unless there is a fault
abbrev pub tables_outcome : List PartTree → Result (List NamedTable) TablesFault
tables_outcome parts = unless (tables_fault parts) (Ok (map (named_table parts) (tables_in parts)))

-- the fault that an end tells of; want of memory is none
abbrev pub fault_in : TablesFault → Option TablesFault
fault_in Memory = None
fault_in fault = Some fault
