use Rattle.std.proofs.Common.{◌≡◌, ◌+◌, ◌++◌, length}
use Rattle.gta_text.specs.Tokens.{tokens_from}
use Rattle.gta_text.proofs.tokens.tokens_of.Given as goal

abbrev pub invariant-loop-first : goal.invariant-loop-first
invariant-loop-first l = record {
  in_range : l.at + length l.rest ≡ l.place + length l.line;
  so_far : l.tokens.items ++ tokens_from 0 l.at l.rest ≡ tokens_from 0 l.place l.line;
}

abbrev pub decreases-loop-first : goal.decreases-loop-first
decreases-loop-first l = length l.rest
