-- The rows of a table that has no fault.
use Rattle.std.proofs.Common.{◌≡◌, ℕ, ◌+◌, ◌≤◌, nat_lt, if◌then◌else◌, ◌==◌, Bool, true, false, List, [], ◌∷◌, length}
use Rattle.std.proofs.Common.{Option}
use Rattle.std.proofs.Common.{Some, None}
use Rattle.std.proofs.Common.{refl, arith}
use Rattle.std.specs.Option.{option_or}
use Rattle.gta_spec.specs.declared.limits.TheConstants.{FIRST_ROW_LIMIT, ROW_LIMIT}
use Rattle.gta_spec.specs.Versions.{row_limit}
use Rattle.gta_spec.specs.declared.parts.ColumnItem.{ColumnItem}
use Rattle.gta_checked.specs.declared.rows.Rows.{Rows}
use Rattle.gta_rows.specs.Fields.{Record}
use Rattle.gta_rows.specs.declared.fault.RowsFault.TheVariants.{TooMany}
use Rattle.gta_rows.specs.Table.{IsTableOf, fault_behind, first_bad_cell, missing, no_cell, places}
use Rattle.gta_rows.specs.Table.{records_fault, table_fault, table_records, too_many, twice, wrong_length}

or-second : {A : Type 0} (first second : Option A) → option_or first second ≡ None → second ≡ None
or-second None second none = none
or-second (Some x) second none = absurd (let found : Some x ≡ None = none in cc)

limit-within : (version : ℕ) → row_limit version ≤ ROW_LIMIT
limit-within version = by_test (version == 1)
  where
    by_test : (t : Bool) → (if t then FIRST_ROW_LIMIT else ROW_LIMIT) ≤ ROW_LIMIT
    by_test true = omega arith
    by_test false = omega arith

few-if_not_many : (version count : ℕ) → too_many version count ≡ None → count ≤ ROW_LIMIT
few-if_not_many version count none = by_test (nat_lt (row_limit version) count) refl
  where
    by_test : (t : _) → nat_lt (row_limit version) count ≡ t → count ≤ ROW_LIMIT
    by_test true many = absurd (let found : Some (TooMany (row_limit version)) ≡ None = rw many at none in cc)
    by_test false few = let most = limit-within version in grind (arith, few)

few-in : (version : ℕ) (items : List ColumnItem) (records : List Record) → records_fault version items records ≡ None
    → length records ≤ ROW_LIMIT + 1
unfolding records_fault fault_behind
few-in version items [] none = omega arith
few-in version items (header ∷ records) none =
    let behind = or-second (twice header items) (fault_behind version header items records)
    (or-second (missing header items)
    (option_or (twice header items) (fault_behind version header items records)) none) in
    let few = few-if_not_many version (length records)
    (or-second (no_cell items (first_bad_cell (places header items) records)) (too_many version (length records))
    (or-second (wrong_length (length header) records)
    (option_or (no_cell items (first_bad_cell (places header items) records)) (too_many version (length records)))
    behind)) in
    omega (arith, few)

pub table-few : (version : ℕ) (items : List ColumnItem) (bytes : List ℕ) (rows : Rows) → IsTableOf items bytes rows
    → table_fault version items bytes ≡ None → rows.count ≤ ROW_LIMIT
table-few version items bytes rows table none =
    let few = few-in version items (table_records bytes) none in
    let count = table.count in
    omega (arith, few, count)
