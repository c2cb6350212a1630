-- The first fault in the order of the refusals, put together from its parts.
use Rattle.std.proofs.Common.{◌≡◌, ℕ, ◌+◌, ◌<◌, ◌≤◌, Bool, true, false, nat_lt, if◌then◌else◌, List}
use Rattle.std.proofs.Common.{[], ◌∷◌, length, Option, Some, None, option_map, refl, sym, ap, subst}
use Rattle.std.proofs.Common.{◌∙◌, arith}
use Rattle.std.specs.List.{cons_option, enumerate_from, filter_map, position, position_or_len}
use Rattle.std.specs.List.{slice_get}
use Rattle.std.specs.Option.{option_or}
use Rattle.std.specs.Prelude.{IfSome}
use Rattle.std.proofs.lemmas.Bool.Decides.{nat_tests}
use Rattle.std.proofs.lemmas.Option.{same_Some, IfSome_then}
use Rattle.gta_spec.specs.Versions.{row_limit}
use Rattle.gta_spec.specs.declared.parts.ColumnItem.{ColumnItem}
use Rattle.gta_rows.specs.declared.fault.RowsFault.{RowsFault}
use Rattle.gta_rows.specs.declared.fault.RowsFault.TheVariants.{TooMany}
use Rattle.gta_rows.specs.Fields.{Record, has_no_cell}
use Rattle.gta_rows.specs.Table.{bad_cell, first_bad_cell, fault_behind, records_fault, missing, no_cell}
use Rattle.gta_rows.specs.Table.{fault_in, places, too_many, twice, wrong_length}

-- an end that carries this fault
abbrev pub Stops : Option RowsFault → RowsFault → Type 0
Stops fault end = IfSome (fault_in end) (λ told. fault ≡ Some told)

pub moved : (o p : Option RowsFault) (end : RowsFault) → ((e : RowsFault) → o ≡ Some e → p ≡ Some e)
    → Stops o end → Stops p end
moved o p end go is = IfSome_then (fault_in end) is go

-- a refusal of the header
pub under_header : (version : ℕ) (items : List ColumnItem) (header : Record) (records : List Record) (fault : RowsFault)
    → Stops (option_or (missing header items) (twice header items)) fault
    → Stops (records_fault version items (header ∷ records)) fault
unfolding records_fault
under_header version items header records fault = moved _ _ fault
    (λ e is. by (missing header items) (twice header items) is)
  where
    by : {e : RowsFault} (o p : Option RowsFault) → option_or o p ≡ Some e
        → option_or o (option_or p (fault_behind version header items records)) ≡ Some e
    by (Some x) p is = is
    by None (Some x) is = is
    by None None is = cc is

-- a refusal of the records
whole_fault : (version : ℕ) (items : List ColumnItem) (header : Record) (records : List Record)
    → missing header items ≡ None → twice header items ≡ None
    → records_fault version items (header ∷ records) ≡ fault_behind version header items records
unfolding records_fault
whole_fault version items header records none_missing none_twice = rw (none_missing, none_twice) refl

pub under_lengths : (version : ℕ) (items : List ColumnItem) (header : Record) (records : List Record) (width : ℕ)
    (fault : RowsFault)
    → missing header items ≡ None → twice header items ≡ None → width ≡ length header
    → Stops (wrong_length width records) fault → Stops (records_fault version items (header ∷ records)) fault
unfolding fault_behind
under_lengths version items header records width fault none_missing none_twice wide =
    moved _ _ fault (λ e is. whole_fault version items header records none_missing none_twice
    ∙ ap (λ (o : Option RowsFault). option_or o
    (option_or (no_cell items (first_bad_cell (places header items) records)) (too_many version (length records))))
    (ap (λ (n : ℕ). wrong_length n records) (sym wide) ∙ is))

-- with all lengths right, the fault is that of the cells or the number of rows
pub cells_fault : (version : ℕ) (items : List ColumnItem) (header : Record) (records : List Record) (width : ℕ)
    (bad : Option (ℕ × ℕ)) (count : ℕ)
    → missing header items ≡ None → twice header items ≡ None → width ≡ length header
    → wrong_length width records ≡ None → bad ≡ first_bad_cell (places header items) records → count ≡ length records
    → records_fault version items (header ∷ records) ≡ option_or (no_cell items bad) (too_many version count)
unfolding fault_behind
cells_fault version items header records width bad count none_missing none_twice wide lengths is_bad is_count =
    whole_fault version items header records none_missing none_twice
    ∙ ap (λ (o : Option RowsFault). option_or o
    (option_or (no_cell items (first_bad_cell (places header items) records)) (too_many version (length records))))
    (ap (λ (n : ℕ). wrong_length n records) (sym wide) ∙ lengths)
    ∙ ap (λ (o : Option (ℕ × ℕ)). option_or (no_cell items o) (too_many version (length records))) (sym is_bad)
    ∙ ap (λ (n : ℕ). option_or (no_cell items bad) (too_many version n)) (sym is_count)

pub few_rows : (version count : ℕ) → count ≤ row_limit version → too_many version count ≡ None
few_rows version count few = by (nat_lt (row_limit version) count) (grind (arith, nat_tests))
  where
    by : (b : Bool) → b ≡ false → (if b then Some (TooMany (row_limit version)) else None) ≡ None
    by true e = cc e
    by false e = refl

pub many_rows : (version count : ℕ) → row_limit version < count
    → too_many version count ≡ Some (TooMany (row_limit version))
many_rows version count many = by (nat_lt (row_limit version) count) (grind (arith, nat_tests))
  where
    by : (b : Bool) → b ≡ true
        → (if b then Some (TooMany (row_limit version)) else None) ≡ Some (TooMany (row_limit version))
    by true e = refl
    by false e = cc e

-- the place without a cell is in a declared column
position_within : (test : ℕ → Bool) (xs : List ℕ) (i : ℕ) → position test xs ≡ Some i → i < length xs
position_within test xs i e = by (nat_lt (position_or_len test xs) (length xs)) refl e
  where
    by : (b : Bool) → nat_lt (position_or_len test xs) (length xs) ≡ b
        → (if b then Some (position_or_len test xs) else None) ≡ Some i → i < length xs
    by true lt h = subst (λ (k : ℕ). k < length xs) (same_Some _ i h) (grind (arith, nat_tests))
    by false lt h = cc h

from_place : (columns : List ℕ) (n : ℕ) (records : List Record) (at : ℕ × ℕ)
    → slice_get (filter_map (bad_cell columns) (enumerate_from n records)) 0 ≡ Some at → at.1 < length columns
from_place columns n [] at e = cc e
from_place columns n (fields ∷ records) at e = by (position (has_no_cell fields) columns) refl e
    (from_place columns (n + 1) records at)
  where
    by : (o : Option ℕ) → position (has_no_cell fields) columns ≡ o
        → slice_get (cons_option (option_map (λ (k : ℕ). (n, k)) o)
        (filter_map (bad_cell columns) (enumerate_from (n + 1) records))) 0 ≡ Some at
        → (slice_get (filter_map (bad_cell columns) (enumerate_from (n + 1) records)) 0 ≡ Some at
        → at.1 < length columns)
        → at.1 < length columns
    by None is h later = later h
    by (Some k) is h later = subst (λ (p : ℕ × ℕ). p.1 < length columns) (same_Some _ at h)
        (position_within (has_no_cell fields) columns k is)

pub bad_within : (columns : List ℕ) (records : List Record) (bad : Option (ℕ × ℕ)) (size : ℕ)
    → bad ≡ first_bad_cell columns records → length columns ≡ size → IfSome bad (λ at. at.1 < size)
unfolding first_bad_cell
bad_within columns records None size is same = tt
bad_within columns records (Some at) size is same = subst (λ (n : ℕ). at.1 < n) same
    (from_place columns 0 records at (sym is))
