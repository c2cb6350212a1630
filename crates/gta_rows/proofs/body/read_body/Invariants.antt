use Rattle.std.proofs.Common.{◌≡◌, ◌++◌, List, None, length}
use Rattle.gta_rows.specs.Reading.{IsReading, records_left}
use Rattle.gta_rows.specs.Table.{wrong_length}
use Rattle.gta_rows.specs.Body.{IsBodyOf}
use Rattle.gta_rows.proofs.body.read_body.Given as goal
use Rattle.gta_rows.specs.Fields.{Record}

abbrev pub invariant-loop-row : goal.invariant-loop-row
invariant-loop-row l = record {
  reading : IsReading l.reader;
  seen : List Record;
  whole : seen ++ records_left l.reader ≡ records_left l.fn.reader;
  lengths : wrong_length l.width seen ≡ None;
  body : IsBodyOf l.columns seen l.body;
}

abbrev pub decreases-loop-row : goal.decreases-loop-row
decreases-loop-row l = length (records_left l.reader)
