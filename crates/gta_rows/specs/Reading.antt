-- What a reader of csv has left of a table, between two records.
use Rattle.std.specs.Prelude.{◌≡◌, ℕ, ◌+◌, ◌≤◌, true, false, List, [], length, map, Option, Some, None}
use Rattle.std.specs.Borrow.{Bor}
use Rattle.csv.specs.Machine.{ends_at_end}
use Rattle.csv.specs.Reading.{Ready, default_config, is_flexible, reader_config, reader_state, reader_trim}
use Rattle.csv.specs.Reading.{records_from, source_of}
use Rattle.csv.specs.declared.parser.State.{State}
use Rattle.csv.specs.declared.reader.Reader.{Reader}
use Rattle.csv.specs.declared.reader.Trim.TheVariants as trims
use Rattle.gta_text.specs.declared.lines.TheConstants.{INPUT_BOUND}
use Rattle.gta_rows.specs.Fields.{Record, trimmed_record}

abbrev pub bytes_left : Reader (Bor (List ℕ)) → Option (List ℕ)
bytes_left reader = source_of (λ bytes. Some bytes.now) reader

-- the records that csv reads from here on, trimmed
unfoldable pub records_after : State → Option (List ℕ) → List Record
records_after state None = []
records_after state (Some bytes) =
    map trimmed_record (records_from default_config (length bytes + 1) state bytes)

abbrev pub records_left : Reader (Bor (List ℕ)) → List Record
records_left reader = records_after (reader_state reader) (bytes_left reader)

-- the reader stands between two records, and reads them as they are, each with as many fields as it has
pub record IsReading (reader : Reader (Bor (List ℕ))) : Type 0 where
  pub trim : reader_trim reader ≡ trims.None
  pub flexible : is_flexible reader ≡ true
  pub ready : Ready reader
  pub config : reader_config reader ≡ default_config
  pub bytes : List ℕ
  pub known : bytes_left reader ≡ Some bytes
  pub few : length bytes ≤ INPUT_BOUND
  pub between : ends_at_end (reader_state reader) ≡ false
