use Rattle.std.specs.Prelude.{◌-◌, length}
use Rattle.gta_syntax.specs.Sources.{symbols_in}
use Rattle.gta_syntax.specs.Rules.{many, begins_next_term, next_term_at}
use Rattle.gta_syntax.proofs.Loops.{SoFar}
use Rattle.gta_syntax.proofs.measures.more_terms.Given as goal

abbrev pub invariant-loop : goal.invariant-loop
invariant-loop l = SoFar begins_next_term next_term_at (length l.tokens - l.counter) (l.terms.items)
    (symbols_in l.source l.rest) (many begins_next_term next_term_at (length l.tokens) (symbols_in l.source l.tokens))
