use Rattle.std.proofs.Common.{◌≡◌, ◌+◌, ◌≤◌, length}
use Rattle.gta_spec.specs.Grammar.{names_among}
use Rattle.gta_syntax.specs.Sources.{symbols_in}
use Rattle.gta_syntax.proofs.keep.names_among.Given as goal

abbrev pub invariant-loop : goal.invariant-loop
invariant-loop l = record {
  so_far : l.names + names_among (symbols_in l.source l.rest) ≡ names_among (symbols_in l.source l.tokens);
  left : length l.rest + l.counter ≡ length l.tokens;
  few : l.names ≤ l.counter;
}
