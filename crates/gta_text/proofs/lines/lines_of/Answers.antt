use Rattle.gta_text.proofs.FoundLines.{result_held}
use Rattle.gta_text.proofs.lines.lines_of.Goals as goal

pub returns : goal.returns
returns c = record {
  tells = c.read_lines.ensures;
  held = result_held c.args.bytes.now c.read_lines.result c.read_lines.ensures;
}
