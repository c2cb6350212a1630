use Rattle.std.proofs.Common.{◌∙◌, refl, inr, arith}
use Rattle.csv.specs.Reading.{strip_bom}
use Rattle.gta_rows.proofs.Records.{strip_shorter}
use Rattle.gta_rows.proofs.Left.{at_start, few_left}
use Rattle.gta_rows.proofs.reading.reader_of.Goals as goal

pub returns-clause-reading : goal.returns-clause-reading
returns-clause-reading c =
    let made = c.from_reader.ensures in
    let settings = c.all_records.ensures in
    record {
      trim = made.trim ∙ settings.trim ∙ c.new.ensures.trim;
      flexible = made.flexible ∙ settings.flexible;
      ready = inr (inr (made.has_headers ∙ settings.no_header, made.headers));
      config = made.config ∙ settings.config ∙ c.new.ensures.config;
      bytes = strip_bom c.args.bytes.now;
      known = made.source;
      few = omega (arith, strip_shorter c.args.bytes.now, c.requires);
      between = rw made.state refl;
    }

pub returns-clause-few : goal.returns-clause-few
returns-clause-few c =
    rw (at_start c.from_reader.result c.args.bytes.now c.from_reader.ensures.state c.from_reader.ensures.source)
    (few_left c.args.bytes.now c.requires)

pub returns-clause-records : goal.returns-clause-records
returns-clause-records c =
    at_start c.from_reader.result c.args.bytes.now c.from_reader.ensures.state c.from_reader.ensures.source
