use Rattle.std.proofs.Common.{◌≡◌, ◌+◌, length}
use Rattle.gta_text.specs.Text.{first_tokens, first_tokens_from, raw_lines}
use Rattle.gta_text.proofs.lines.first_tokens.Given as goal

abbrev pub invariant-loop-rest : goal.invariant-loop-rest
invariant-loop-rest l = record {
  in_range : l.place + length l.rest ≡ length l.bytes;
  left : first_tokens_from l.place (raw_lines l.rest) ≡ first_tokens l.bytes;
}

abbrev pub decreases-loop-rest : goal.decreases-loop-rest
decreases-loop-rest l = length l.rest
