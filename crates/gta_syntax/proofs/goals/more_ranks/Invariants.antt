use Rattle.std.specs.Prelude.{◌-◌, length, codes}
use Rattle.gta_syntax.specs.Sources.{symbols_in}
use Rattle.gta_syntax.specs.Rules.{many, begins_later, next_rank_at}
use Rattle.gta_syntax.proofs.Loops.{SoFar}
use Rattle.gta_syntax.proofs.goals.more_ranks.Given as goal

abbrev pub invariant-loop : goal.invariant-loop
invariant-loop l = SoFar (begins_later (codes "then")) next_rank_at (length l.tokens - l.counter) (l.ranks.items)
    (symbols_in l.source l.rest)
    (many (begins_later (codes "then")) next_rank_at (length l.tokens) (symbols_in l.source l.tokens))
