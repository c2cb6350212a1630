-- What is known of the records behind the header, with one record more.
use Rattle.std.proofs.Common.{◌≡◌, ℕ, ◌+◌, ◌*◌, ◌<◌, ◌≤◌, Bool, not, ◌==◌, List, [], ◌∷◌, ◌++◌}
use Rattle.std.proofs.Common.{length, Option, Some, None, option_map, ℤ, add-one, sym, ap, ◌∙◌}
use Rattle.std.proofs.Common.{arith}
use Rattle.std.specs.Prelude.{IsTrue}
use Rattle.std.specs.List.{filter_map, flat_map, list_all, position, position_or_len}
use Rattle.std.specs.Option.{option_or}
use Rattle.std.proofs.lemmas.Grind.{flat_map-append}
use Rattle.std.proofs.lemmas.List.{append-nil, length-append}
use Rattle.std.proofs.lemmas.Bool.Decides.{nat_tests}
use Rattle.gta_spec.specs.declared.limits.TheConstants.{ROW_LIMIT}
use Rattle.gta_checked.specs.Cells.{is_cell}
use Rattle.gta_rows.specs.declared.body.Body.{Body}
use Rattle.gta_rows.specs.declared.fault.RowsFault.TheVariants.{Length}
use Rattle.gta_rows.specs.Fields.{Record, cell_at, has_no_cell}
use Rattle.gta_rows.specs.Table.{bad_cell, cells_of, first_bad_cell, wrong_length}
use Rattle.gta_rows.specs.Body.{IsBodyOf}
use Rattle.gta_rows.proofs.Firsts.{head_append, at_more, at_here}

from_zero : (n : ℕ) → 0 + n ≡ n
from_zero n = omega arith

bad-append : (columns : List ℕ) (records : List Record) (fields : Record)
    → first_bad_cell columns (records ++ fields ∷ []) ≡ option_or (first_bad_cell columns records)
    (bad_cell columns (length records, fields))
unfolding first_bad_cell
bad-append columns records fields =
    head_append (bad_cell columns) 0 records fields
    ∙ ap (λ (n : ℕ). option_or (first_bad_cell columns records) (bad_cell columns (n, fields)))
    (from_zero (length records))

bad_before : (columns : List ℕ) (records : List Record) (fields : Record) (o : Option (ℕ × ℕ))
    → o ≡ first_bad_cell columns records
    → first_bad_cell columns (records ++ fields ∷ []) ≡ option_or o (bad_cell columns (length records, fields))
bad_before columns records fields o is =
    bad-append columns records fields
    ∙ ap (λ (p : Option (ℕ × ℕ)). option_or p (bad_cell columns (length records, fields))) (sym is)

cells-append : (columns : List ℕ) (records : List Record) (fields : Record)
    → cells_of columns (records ++ fields ∷ []) ≡ cells_of columns records ++ filter_map (cell_at fields) columns
unfolding cells_of
cells-append columns records fields =
    flat_map-append (λ (row : Record). filter_map (cell_at row) columns) records (fields ∷ [])
    ∙ ap (λ (xs : List ℤ). flat_map (λ (row : Record). filter_map (cell_at row) columns) records ++ xs)
    (append-nil (filter_map (cell_at fields) columns))

counted : (n : ℕ) (records : List Record) (fields : Record) → n ≡ length records
    → n + 1 ≡ length (records ++ fields ∷ [])
counted n records fields is = omega (arith, is, length-append records (fields ∷ []))

-- a place without a cell is known from before
pub known_bad : (columns : List ℕ) (records : List Record) (fields : Record) (old new : Body) (at : ℕ × ℕ)
    → IsBodyOf columns records old → old.bad ≡ Some at → new.count ≡ old.count + 1 → new.bad ≡ old.bad
    → new.cells ≡ old.cells
    → IsBodyOf columns (records ++ fields ∷ []) new
known_bad columns records fields old new at is there count bad cells = record {
  count = count ∙ counted old.count records fields is.count;
  bad = bad ∙ there ∙ sym (bad_before columns records fields old.bad is.bad
      ∙ ap (λ (o : Option (ℕ × ℕ)). option_or o (bad_cell columns (length records, fields))) there);
  cells = λ none few. cc (bad, there, none);
  whole = λ none few. cc (bad, there, none);
  within = rw cells is.within;
}

-- this record has the first
pub new_bad : (columns : List ℕ) (records : List Record) (fields : Record) (old new : Body) (column : ℕ)
    → IsBodyOf columns records old → old.bad ≡ None → position (has_no_cell fields) columns ≡ Some column
    → new.count ≡ old.count + 1 → new.bad ≡ Some (old.count, column) → IsTrue (list_all is_cell new.cells.items)
    → IsBodyOf columns (records ++ fields ∷ []) new
new_bad columns records fields old new column is none found count bad within = record {
  count = count ∙ counted old.count records fields is.count;
  bad = bad ∙ sym (bad_before columns records fields None (sym none ∙ is.bad)
      ∙ ap (option_map (λ (k : ℕ). (length records, k))) found ∙ ap (λ (n : ℕ). Some (n, column)) (sym is.count));
  cells = λ gone few. cc (bad, gone);
  whole = λ gone few. cc (bad, gone);
  within = within;
}

product : (n m : ℕ) → n * m + m ≡ (n + 1) * m
product n m = rw (add-one n) (omega arith)

-- all places so far have a cell
pub none_bad : (columns : List ℕ) (records : List Record) (fields : Record) (old new : Body)
    → IsBodyOf columns records old → old.bad ≡ None → position (has_no_cell fields) columns ≡ None
    → new.count ≡ old.count + 1 → new.bad ≡ None
    → (old.count < ROW_LIMIT → new.cells.items ≡ old.cells.items ++ filter_map (cell_at fields) columns)
    → (old.count < ROW_LIMIT → length new.cells.items ≡ length old.cells.items + length columns)
    → IsTrue (list_all is_cell new.cells.items)
    → IsBodyOf columns (records ++ fields ∷ []) new
none_bad columns records fields old new is none found count bad cells whole within = record {
  count = count ∙ counted old.count records fields is.count;
  bad = bad ∙ sym (bad_before columns records fields None (sym none ∙ is.bad)
      ∙ ap (option_map (λ (k : ℕ). (length records, k))) found);
  cells = λ gone few.
      let below : old.count < ROW_LIMIT = omega (arith, count, few) in
      let within : old.count ≤ ROW_LIMIT = omega arith in
      cells below ∙ ap (λ (xs : List ℤ). xs ++ filter_map (cell_at fields) columns) (is.cells none within)
      ∙ sym (cells-append columns records fields);
  whole = λ gone few.
      let below : old.count < ROW_LIMIT = omega (arith, count, few) in
      let within : old.count ≤ ROW_LIMIT = omega arith in
      whole below ∙ ap (λ (n : ℕ). n + length columns) (is.whole none within)
      ∙ product old.count (length columns) ∙ ap (λ (n : ℕ). n * length columns) (sym count);
  within = within;
}

-- the first record with another number of fields
pub lengths_more : (width : ℕ) (records : List Record) (fields : Record)
    → wrong_length width records ≡ None → length fields ≡ width → wrong_length width (records ++ fields ∷ []) ≡ None
unfolding wrong_length
lengths_more width records fields so_far same =
    at_more (λ (at : ℕ × Record). not (length at.1 == width)) (λ (at : ℕ × Record). Length at.0 (length at.1) width)
    0 records fields so_far (grind (arith, nat_tests))

pub length_here : (width : ℕ) (records : List Record) (fields : Record) (others : List Record)
    → wrong_length width records ≡ None → (length fields ≡ width → ⊥)
    → wrong_length width (records ++ fields ∷ others) ≡ Some (Length (length records) (length fields) width)
unfolding wrong_length
length_here width records fields others so_far other =
    at_here (λ (at : ℕ × Record). not (length at.1 == width)) (λ (at : ℕ × Record). Length at.0 (length at.1) width)
    0 records fields others so_far (grind (arith, nat_tests))
    ∙ ap (λ (n : ℕ). Some (Length n (length fields) width)) (from_zero (length records))

-- no place found, and the first one found
pub no_position : (test : ℕ → Bool) (xs : List ℕ) (i : ℕ) → position_or_len test xs ≡ i → length xs ≤ i
    → position test xs ≡ None
no_position test xs i is past = grind (arith, nat_tests)

pub a_position : (test : ℕ → Bool) (xs : List ℕ) (i : ℕ) → position_or_len test xs ≡ i → i < length xs
    → position test xs ≡ Some i
a_position test xs i is within = rw is (grind (arith, nat_tests))
