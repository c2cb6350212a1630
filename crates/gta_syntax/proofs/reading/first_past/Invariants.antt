use Rattle.std.specs.Prelude.{◌≡◌, map, drop}
use Rattle.gta_text.specs.Text.{line_view}
use Rattle.gta_syntax.specs.Refusals.{first_past}
use Rattle.gta_syntax.proofs.reading.first_past.Given as goal

abbrev pub invariant-loop-line : goal.invariant-loop-line
invariant-loop-line l = first_past l.source.version l.source.bytes.now (map line_view (drop l.line-index l.lines))
    ≡ first_past l.source.version l.source.bytes.now (map line_view l.lines)
