use Rattle.std.specs.Prelude.{map, drop}
use Rattle.gta_text.specs.Text.{line_view}
use Rattle.gta_spec.specs.Parts.{part_tree}
use Rattle.gta_syntax.specs.Refusals.{parts_from}
use Rattle.gta_syntax.proofs.PartLoops.{PartsSoFar}
use Rattle.gta_syntax.proofs.reading.parts_of.Given as goal

abbrev pub invariant-loop-line : goal.invariant-loop-line
invariant-loop-line l = PartsSoFar l.source.version l.source.bytes.now (map part_tree l.parts.items)
    (map line_view (drop l.line-index l.lines))
    (parts_from l.source.version l.source.bytes.now (map line_view l.lines))
