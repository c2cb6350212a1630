use Rattle.std.proofs.Common.{◌≡◌, ◌+◌, ◌≤◌, length, map}
use Rattle.gta_text.specs.Text.{line_view, read_lines}
use Rattle.gta_text.proofs.RawLines.{SoFar}
use Rattle.gta_text.proofs.lines.read_lines.Given as goal

abbrev pub invariant-loop-rest : goal.invariant-loop-rest
invariant-loop-rest l = record {
  in_range : l.place + length l.rest ≡ length l.bytes;
  few : l.number ≤ l.place + 1;
  so_far : SoFar l.bytes l.rest (map line_view l.lines.items) l.number l.place (read_lines l.bytes);
}

abbrev pub decreases-loop-rest : goal.decreases-loop-rest
decreases-loop-rest l = length l.rest
