-- What a reader has left, and what reading a record does to it.
use Rattle.std.proofs.Common.{◌≡◌, ℕ, ◌+◌, ◌≤◌, true, false, List, [], ◌∷◌, length, map, Option}
use Rattle.std.proofs.Common.{Some, refl, sym, ap, ◌∙◌, arith, Bor, inl}
use Rattle.std.proofs.lemmas.List.{length-map}
use Rattle.csv.specs.Machine.{Read, next_record}
use Rattle.csv.specs.Reading.{Reached, ReadRecord, default_config, reader_state, records}
use Rattle.csv.specs.Reading.{is_flexible, records_from, strip_bom, took_first}
use Rattle.csv.specs.declared.parser.State.{State}
use Rattle.csv.specs.declared.parser.State.TheVariants as st
use Rattle.csv.specs.declared.reader.Reader.{Reader}
use Rattle.csv.proofs.ReadFacts.{rows-more, rows-end}
use Rattle.gta_text.specs.declared.lines.TheConstants.{INPUT_BOUND}
use Rattle.gta_rows.specs.Fields.{Record, trimmed, trimmed_record}
use Rattle.gta_rows.specs.Reading.{IsReading, bytes_left, records_after, records_left}
use Rattle.gta_rows.proofs.Records.{took, shorter, none_left, one_left, few_records, strip_shorter}

abbrev Bytes : Type 0
Bytes = Bor (List ℕ)

abbrev known_bytes : Bytes → Option (List ℕ)
known_bytes bytes = Some bytes.now

-- what a read that found a record did
pub record Found (old new : Reader Bytes) (fields : Record) : Type 0 where
  pub reading : IsReading new
  pub next : records_left old ≡ trimmed_record fields ∷ records_left new
  pub narrow : length (trimmed_record fields) ≤ INPUT_BOUND + 1

left_known : (reader : Reader Bytes) (s : State) (bytes : List ℕ) → reader_state reader ≡ s
    → bytes_left reader ≡ Some bytes
    → records_left reader ≡ map trimmed_record (records_from default_config (length bytes + 1) s bytes)
unfolding records_after
left_known reader s bytes at known = rw (at, known) refl

pub found_one : (old new : Reader Bytes) (fields : Record) → IsReading old → took_first new ≡ true
    → is_flexible new ≡ is_flexible old → ReadRecord known_bytes old new true fields → Found old new fields
unfolding Reached
found_one old new fields reading first as_flexible read =
    let more = rows-more known_bytes old new fields default_config (reader_state old) reading.bytes reading.bytes []
    reading.config reading.known (refl, refl) read in
    let p : Read = more.2.0 in
    let e : next_record default_config (reader_state old) [] [] reading.bytes ≡ Some p = more.2.1 in
    let facts = took (reader_state old) [] [] reading.bytes p e in
    let less = shorter (reader_state old) reading.bytes p reading.between e in
    let same : fields ≡ p.0 = more.2.2 in
    let state : p.1 ≡ reader_state new = more.2.3.0 in
    let rest : p.2 ≡ more.0 = more.2.3.1 in
    record {
      reading = record {
        trim = read.3 ∙ reading.trim;
        flexible = as_flexible ∙ reading.flexible;
        ready = inl first;
        config = read.2 ∙ reading.config;
        bytes = p.2;
        known = more.1 ∙ ap Some (sym rest);
        few = omega (arith, reading.few);
        between = rw (← state) facts.between;
      };
      next = left_known old (reader_state old) reading.bytes refl reading.known
          ∙ ap (map trimmed_record) (one_left (reader_state old) reading.bytes p reading.between e)
          ∙ ap (λ (f : Record). trimmed_record f ∷ map trimmed_record
          (records_from default_config (length p.2 + 1) p.1 p.2)) (sym same)
          ∙ ap (λ (rows : List Record). trimmed_record fields ∷ rows)
          (sym (left_known new p.1 p.2 (sym state) (more.1 ∙ ap Some (sym rest))));
      narrow = omega (
        arith,
        length-map fields trimmed,
        ap
            (λ (f : Record). length f) same,
        facts.narrow,
        reading.few,
      );
    }

pub found_none : (old new : Reader Bytes) (fields : Record) → IsReading old
    → ReadRecord known_bytes old new false fields → records_left old ≡ []
found_none old new fields reading read =
    left_known old (reader_state old) reading.bytes refl reading.known
    ∙ ap (map trimmed_record) (none_left (reader_state old) reading.bytes
    (rows-end known_bytes old new fields default_config reading.bytes reading.config reading.known read))

-- a new reader of a text
pub at_start : (reader : Reader Bytes) (text : List ℕ) → reader_state reader ≡ st.StartRecord
    → bytes_left reader ≡ Some (strip_bom text)
    → records_left reader ≡ map trimmed_record (records default_config (strip_bom text))
at_start reader text at known = left_known reader st.StartRecord (strip_bom text) at known

pub few_left : (text : List ℕ) → length text ≤ INPUT_BOUND
    → length (map trimmed_record (records default_config (strip_bom text))) ≤ INPUT_BOUND
few_left text few =
    rw length-map
    (omega (
      arith,
      few_records (length (strip_bom text) + 1) st.StartRecord
          (strip_bom text) refl,
      strip_shorter text,
      few,
    ))
