-- A cell is within the bound.
use Rattle.std.proofs.Common.{◌≡◌, ℕ, zero, suc, Bool, true, false, ◌&&◌, ◌==◌, if◌then◌else◌, List}
use Rattle.std.proofs.Common.{[], ◌∷◌, ◌++◌, Option, Some, None, is_some, option_map, ℤ, pos, refl}
use Rattle.std.proofs.Common.{subst}
use Rattle.std.specs.Prelude.{nat_le, nat_abs, neg_ℤ, option_to_list}
use Rattle.std.specs.Str.Parse.{digits_value}
use Rattle.std.proofs.lemmas.Option.{same_Some}
use Rattle.gta_text.specs.declared.numbers.TheConstants.{NUMBER_BOUND}
use Rattle.gta_text.specs.Numbers.{cell_number, digits_number, is_number}
use Rattle.gta_checked.specs.Cells.{is_cell}
use Rattle.gta_rows.specs.Fields.{Record, cell_at}
use Rattle.std.proofs.lemmas.List.{append-nil}
use Rattle.std.specs.List.{list_all, slice_get}
use Rattle.std.proofs.lemmas.List.Folds.{list_all-append}
use Rattle.std.specs.Option.{option_and_then}

digits_within : (bs : List ℕ) (n : ℕ) → digits_number bs ≡ Some n → nat_le n NUMBER_BOUND ≡ true
digits_within bs n e = by (is_number bs) (nat_le (digits_value 10 bs) NUMBER_BOUND) refl e
  where
    by : (a b : Bool) → nat_le (digits_value 10 bs) NUMBER_BOUND ≡ b
        → (if a && b then Some (digits_value 10 bs) else None) ≡ Some n
        → nat_le n NUMBER_BOUND ≡ true
    by true true le h = subst (λ (k : ℕ). nat_le k NUMBER_BOUND ≡ true) (same_Some _ n h) le
    by true false le h = cc h
    by false b le h = cc h

abs_neg : (n : ℕ) → nat_abs (neg_ℤ (pos n)) ≡ n
abs_neg zero = refl
abs_neg (suc n) = refl

plain : (o : Option ℕ) (z : ℤ) → ((n : ℕ) → o ≡ Some n → nat_le n NUMBER_BOUND ≡ true) → option_map pos o ≡ Some z
    → is_cell z ≡ true
plain None z within e = cc e
plain (Some n) z within e = subst (λ (x : ℤ). is_cell x ≡ true) (same_Some _ z e) (within n refl)

negative : (o : Option ℕ) (z : ℤ) → ((n : ℕ) → o ≡ Some n → nat_le n NUMBER_BOUND ≡ true)
    → option_map (λ n. neg_ℤ (pos n)) o ≡ Some z → is_cell z ≡ true
negative None z within e = cc e
negative (Some n) z within e =
    subst (λ (x : ℤ). is_cell x ≡ true) (same_Some _ z e) (rw (abs_neg n) (within n refl))

number_within : (bs : List ℕ) (z : ℤ) → cell_number bs ≡ Some z → is_cell z ≡ true
number_within [] z e = cc e
number_within (b ∷ bs) z e = by (b == 43) (b == 45) e
  where
    by : (plus minus : Bool)
        → (if plus then option_map pos (digits_number bs)
        else if minus then option_map (λ n. neg_ℤ (pos n)) (digits_number bs)
        else option_map pos (digits_number (b ∷ bs))) ≡ Some z
        → is_cell z ≡ true
    by true minus h = plain (digits_number bs) z (digits_within bs) h
    by false true h = negative (digits_number bs) z (digits_within bs) h
    by false false h = plain (digits_number (b ∷ bs)) z (digits_within (b ∷ bs)) h

pub cell_within : (fields : Record) (place : ℕ) (z : ℤ) → cell_at fields place ≡ Some z → is_cell z ≡ true
cell_within fields place z e = by (slice_get fields place) e
  where
    by : (o : Option (List ℕ)) → option_and_then cell_number o ≡ Some z → is_cell z ≡ true
    by None h = cc h
    by (Some bs) h = number_within bs z h

-- the cells stay within the bound, whether this one is kept or not
pub within_more : (keep : Bool) (old new : List ℤ) (fields : Record) (place : ℕ)
    → (keep ≡ true → new ≡ old ++ option_to_list (cell_at fields place)) → (keep ≡ false → new ≡ old)
    → list_all is_cell old ≡ true → list_all is_cell new ≡ true
within_more true old new fields place kept passed all = by (cell_at fields place) (cell_within fields place)
    (kept refl)
  where
    by : (o : Option ℤ) → ((z : ℤ) → o ≡ Some z → is_cell z ≡ true) → new ≡ old ++ option_to_list o
        → list_all is_cell new ≡ true
    by None is e = rw (e, append-nil old) all
    by (Some z) is e = rw (e, list_all-append is_cell old (z ∷ []), all, is z refl) refl
within_more false old new fields place kept passed all = rw (passed refl) all

-- there is a cell
pub the_cell : (o : Option ℤ) → is_some o ≡ true → (z : ℤ) × (o ≡ Some z)
the_cell None e = cc e
the_cell (Some z) e = (z, refl)
