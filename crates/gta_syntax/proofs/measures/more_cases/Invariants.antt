use Rattle.std.specs.Prelude.{◌-◌, length, map, codes}
use Rattle.gta_spec.specs.Parts.{case_tree}
use Rattle.gta_syntax.specs.Sources.{symbols_in}
use Rattle.gta_syntax.specs.Rules.{many, begins_sign, next_case_at}
use Rattle.gta_syntax.proofs.Loops.{SoFar}
use Rattle.gta_syntax.proofs.measures.more_cases.Given as goal

abbrev pub invariant-loop : goal.invariant-loop
invariant-loop l = SoFar (begins_sign (codes ";")) next_case_at (length l.tokens - l.counter)
    (map case_tree l.cases.items) (symbols_in l.source l.rest)
    (many (begins_sign (codes ";")) next_case_at (length l.tokens) (symbols_in l.source l.tokens))
