use Rattle.std.specs.Prelude.{◌-◌, length, codes}
use Rattle.gta_syntax.specs.Sources.{symbols_in}
use Rattle.gta_syntax.specs.Rules.{many, begins_word, and_at}
use Rattle.gta_syntax.proofs.Loops.{SoFar}
use Rattle.gta_syntax.proofs.rules.more_atoms.Given as goal

abbrev pub invariant-loop : goal.invariant-loop
invariant-loop l = SoFar (begins_word (codes "and")) and_at (length l.tokens - l.counter) (l.atoms.items)
    (symbols_in l.source l.rest)
    (many (begins_word (codes "and")) and_at (length l.tokens) (symbols_in l.source l.tokens))
