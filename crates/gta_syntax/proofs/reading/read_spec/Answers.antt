use Rattle.gta_syntax.proofs.Readings.{found, fits, only, refused, refuses}
use Rattle.gta_syntax.proofs.reading.read_spec.Goals as goal

pub returns : goal.returns
returns c = record {
  found = found c.args.bytes.now c.answer_of.result c.answer_of.ensures;
  well_formed = fits c.args.bytes.now c.answer_of.result c.answer_of.ensures;
  only = only c.args.bytes.now c.answer_of.result c.answer_of.ensures;
  refused = refused c.args.bytes.now c.answer_of.result c.answer_of.ensures;
  refuses = refuses c.args.bytes.now c.answer_of.result c.answer_of.ensures;
  tells = c.answer_of.ensures;
}
