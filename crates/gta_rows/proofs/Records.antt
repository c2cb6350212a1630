-- What csv's records are, read one at a time: each takes a byte or more of the text, and has no more
-- fields than bytes and one.
use Rattle.std.proofs.Common.{◌≡◌, ℕ, zero, suc, ◌+◌, ◌<◌, ◌≤◌, ◌==◌, ◌||◌, ◌&&◌, add-one}
use Rattle.std.proofs.Common.{if◌then◌else◌, Bool, true, false, List, [], ◌∷◌, ◌++◌, length, Option}
use Rattle.std.proofs.Common.{Some, None, option_map, slice_get, refl, sym, ap, subst, ◌∙◌, arith}
use Rattle.std.proofs.lemmas.List.{length-append}
use Rattle.std.proofs.lemmas.Option.{slice_get-map, same_Some}
use Rattle.csv.specs.Machine.{Read, ends_at_end, field_after, fields_after, in_field, is_end}
use Rattle.csv.specs.Machine.{next_record, start_record, step}
use Rattle.csv.specs.Reading.{default_config, records_from, records_next, strip_bom}
use Rattle.csv.specs.Records.{Row, field_at, fields_of}
use Rattle.csv.specs.declared.parser.Action.{Action}
use Rattle.csv.specs.declared.parser.Action.TheVariants as act
use Rattle.csv.specs.declared.parser.State.{State}
use Rattle.csv.specs.declared.parser.State.TheVariants as st
use Rattle.gta_rows.specs.Fields.{Record, trimmed, trimmed_fields}

-- the field at a place
at_place : (fields : Record) (place : ℕ) → field_at fields place ≡ slice_get fields place
unfolding field_at
at_place [] place = refl
at_place (field ∷ fields) zero = refl
at_place (field ∷ fields) (suc place) = at_place fields place

pub trimmed_at : (row : Row) (place : ℕ)
    → slice_get (trimmed_fields row) place ≡ option_map trimmed (field_at (fields_of row) place)
trimmed_at row place = slice_get-map trimmed (fields_of row) place
    ∙ ap (option_map trimmed) (sym (at_place (fields_of row) place))

-- a step that ends a record leads between two records
abbrev Parts : State × Action → Type 0
Parts x = is_end x.1 ≡ true → ends_at_end x.0 ≡ false

either : (b : Bool) (x y : State × Action) → Parts x → Parts y → Parts (if b then x else y)
either true x y p q = p
either false x y p q = q

after_parts : (b : Bool) → Parts ((if b then st.AfterCr else st.StartRecord), act.EndRecord)
after_parts true e = refl
after_parts false e = refl

field_parts : (c : ℕ) → Parts (in_field default_config c)
field_parts c =
    either (c == 44) (st.StartField, act.EndField) _ (λ e. cc e)
    (either ((c == 13) || (c == 10)) ((if c == 13 then st.AfterCr else st.StartRecord), act.EndRecord)
    (st.InField, act.Copy)
    (after_parts (c == 13)) (λ e. cc e))

start_parts : (c : ℕ) → Parts (start_record default_config c)
start_parts c =
    either ((c == 13) || (c == 10)) (st.StartRecord, act.Skip) _ (λ e. cc e)
    (either (c == 34) (st.InQuoted, act.Skip) _ (λ e. cc e) (field_parts c))

step_parts : (s : State) (c : ℕ) → Parts (step default_config s c)
step_parts st.StartRecord c = start_parts c
step_parts st.StartField c = either (c == 34) (st.InQuoted, act.Skip) _ (λ e. cc e) (field_parts c)
step_parts st.InField c = field_parts c
step_parts st.InQuoted c = either (c == 34) (st.AfterQuote, act.Skip) (st.InQuoted, act.Copy) (λ e. cc e) (λ e. cc e)
step_parts st.InEscape c = λ e. cc e
step_parts st.AfterQuote c = either (c == 34) (st.InQuoted, act.Copy) _ (λ e. cc e) (field_parts c)
step_parts st.InComment c = either (c == 10) (st.StartRecord, act.Skip) (st.InComment, act.Skip) (λ e. cc e)
    (λ e. cc e)
step_parts st.AfterCr c = either (c == 10) (st.StartRecord, act.Skip) _ (λ e. cc e) (start_parts c)

abbrev some_read : Read → Option Read
some_read p = Some p

-- what a read leaves: no more text, and a place between two records; how many fields it gives
pub record Took (fields : Record) (xs : List ℕ) (p : Read) : Type 0 where
  pub within : length p.2 ≤ length xs
  pub between : ends_at_end p.1 ≡ false
  pub narrow : length p.0 ≤ length fields + (length xs + 1)

ended : (fields : Record) (field : List ℕ) → Took fields [] (fields ++ (field ∷ []), st.StartRecord, [])
ended fields field = record {
  within = omega arith;
  between = refl;
  narrow = omega (arith, length-append fields (field ∷ []));
}

one_more : (a : Action) (fields : Record) (field : List ℕ) → length (fields_after a fields field) ≤ length fields + 1
one_more act.EndField fields field = omega (arith, length-append fields (field ∷ []))
one_more act.Skip fields field = omega arith
one_more act.Copy fields field = omega arith
one_more act.EndRecord fields field = omega (arith, length-append fields (field ∷ []))

pub took : (s : State) (fields : Record) (field xs : List ℕ) (p : Read)
    → next_record default_config s fields field xs ≡ Some p → Took fields xs p
unfolding next_record
took s fields field [] p e = by (ends_at_end s) e
  where
    by : (b : Bool) → (if b then some_read (fields ++ (field ∷ []), st.StartRecord, []) else None) ≡ Some p
        → Took fields [] p
    by true h = subst (Took fields []) (same_Some _ p h) (ended fields field)
    by false h = cc h
took s fields field (c ∷ rest) p e = by (is_end (step default_config s c).1) refl e
    (took (step default_config s c).0 (fields_after (step default_config s c).1 fields field)
    (field_after (step default_config s c).1 c field) rest p)
  where
    by : (b : Bool) → is_end (step default_config s c).1 ≡ b
        → (if b then some_read
        (fields_after (step default_config s c).1 fields field, (step default_config s c).0, rest)
        else next_record default_config (step default_config s c).0
        (fields_after (step default_config s c).1 fields field)
        (field_after (step default_config s c).1 c field) rest) ≡ Some p
        → (next_record default_config (step default_config s c).0
        (fields_after (step default_config s c).1 fields field)
        (field_after (step default_config s c).1 c field) rest ≡ Some p
        → Took (fields_after (step default_config s c).1 fields field) rest p)
        → Took fields (c ∷ rest) p
    by true ends h more =
        subst (Took fields (c ∷ rest)) (same_Some _ p h) record {
          within = omega arith;
          between = step_parts s c ends;
          narrow = omega (arith, one_more (step default_config s c).1 fields field);
        }
    by false ends h more =
        let later = more h in
        record {
          within = omega (arith, later.within);
          between = later.between;
          narrow = omega (arith, later.narrow, one_more (step default_config s c).1 fields field);
        }

-- a read between two records takes a byte or more
pub shorter : (s : State) (xs : List ℕ) (p : Read) → ends_at_end s ≡ false
    → next_record default_config s [] [] xs ≡ Some p → length p.2 < length xs
unfolding next_record
shorter s [] p between e = by (ends_at_end s) between e
  where
    by : (b : Bool) → b ≡ false → (if b then some_read ([] ++ ([] ∷ []), st.StartRecord, []) else None) ≡ Some p
        → length p.2 < 0
    by true h q = cc h
    by false h q = cc q
shorter s (c ∷ rest) p between e = by (is_end (step default_config s c).1) e
  where
    by : (b : Bool)
        → (if b then some_read (fields_after (step default_config s c).1 [] [], (step default_config s c).0, rest)
        else next_record default_config (step default_config s c).0 (fields_after (step default_config s c).1 [] [])
        (field_after (step default_config s c).1 c []) rest) ≡ Some p
        → length p.2 < length (c ∷ rest)
    by true h = subst (λ (q : Read). length q.2 < length (c ∷ rest)) (same_Some _ p h) (omega arith)
    by false h = omega (arith, (took _ _ _ rest p h).within)

-- the fuel makes no difference where there is enough
fuel : (n m : ℕ) (s : State) (xs : List ℕ) → ends_at_end s ≡ false → length xs < n → length xs < m
    → records_from default_config n s xs ≡ records_from default_config m s xs
unfolding records_from
fuel zero m s xs between a b = absurd (omega arith)
fuel (suc n) zero s xs between a b = absurd (omega arith)
fuel (suc n) (suc m) s xs between a b = by (next_record default_config s [] [] xs) refl (fuel n m)
  where
    by : (o : Option Read) → next_record default_config s [] [] xs ≡ o
        → ((s2 : State) (ys : List ℕ) → ends_at_end s2 ≡ false → length ys < n → length ys < m
        → records_from default_config n s2 ys ≡ records_from default_config m s2 ys)
        → records_next (records_from default_config n) o ≡ records_next (records_from default_config m) o
    by None e more = refl
    by (Some p) e more =
        let less = shorter s xs p between e in
        ap (λ (rows : List Record). p.0 ∷ rows)
        (more p.1 p.2 (took s [] [] xs p e).between (omega arith) (omega arith))

-- the records of a text: none, or the next one and those of what it leaves
pub none_left : (s : State) (xs : List ℕ) → next_record default_config s [] [] xs ≡ None
    → records_from default_config (length xs + 1) s xs ≡ []
unfolding records_from
none_left s xs e = rw (add-one, e) refl

pub one_left : (s : State) (xs : List ℕ) (p : Read) → ends_at_end s ≡ false
    → next_record default_config s [] [] xs ≡ Some p
    → records_from default_config (length xs + 1) s xs ≡ p.0 ∷ records_from default_config (length p.2 + 1) p.1 p.2
unfolding records_from
one_left s xs p between e =
    let less = shorter s xs p between e in
    rw (add-one (length xs), e) (ap (λ (rows : List Record). p.0 ∷ rows)
    (fuel (length xs) (length p.2 + 1) p.1 p.2 (took s [] [] xs p e).between (omega arith) (omega arith)))

-- there are no more records than bytes
pub few_records : (n : ℕ) (s : State) (xs : List ℕ) → ends_at_end s ≡ false
    → length (records_from default_config n s xs) ≤ length xs
unfolding records_from
few_records zero s xs between = omega arith
few_records (suc n) s xs between = by (next_record default_config s [] [] xs) refl (few_records n)
  where
    by : (o : Option Read) → next_record default_config s [] [] xs ≡ o
        → ((s2 : State) (ys : List ℕ) → ends_at_end s2 ≡ false
        → length (records_from default_config n s2 ys) ≤ length ys)
        → length (records_next (records_from default_config n) o) ≤ length xs
    by None e more = omega arith
    by (Some p) e more =
        let less = shorter s xs p between e in
        let later = more p.1 p.2 (took s [] [] xs p e).between in
        omega arith

pub strip_shorter : (xs : List ℕ) → length (strip_bom xs) ≤ length xs
unfolding strip_bom
strip_shorter [] = omega arith
strip_shorter (a ∷ []) = omega arith
strip_shorter (a ∷ b ∷ []) = omega arith
strip_shorter (a ∷ b ∷ c ∷ rest) = by ((a == 239) && (b == 187) && (c == 191))
  where
    by : (m : Bool) → length (if m then rest else a ∷ b ∷ c ∷ rest) ≤ suc (suc (suc (length rest)))
    by true = omega arith
    by false = omega arith
