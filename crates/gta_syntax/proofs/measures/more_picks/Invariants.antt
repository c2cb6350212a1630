use Rattle.std.specs.Prelude.{◌-◌, length, map, codes}
use Rattle.gta_spec.specs.Parts.{pick_tree}
use Rattle.gta_syntax.specs.Sources.{symbols_in}
use Rattle.gta_syntax.specs.Rules.{many, begins_sign, next_pick_at}
use Rattle.gta_syntax.proofs.Loops.{SoFar}
use Rattle.gta_syntax.proofs.measures.more_picks.Given as goal

abbrev pub invariant-loop : goal.invariant-loop
invariant-loop l = SoFar (begins_sign (codes ";")) next_pick_at (length l.tokens - l.counter)
    (map pick_tree l.picks.items) (symbols_in l.source l.rest)
    (many (begins_sign (codes ";")) next_pick_at (length l.tokens) (symbols_in l.source l.tokens))
