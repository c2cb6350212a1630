use Rattle.std.proofs.Common.{◌+◌, ◌-◌, ◌*◌, codes}
use Rattle.gta_spec.specs.Keep.{all_of, any_of}
use Rattle.gta_spec.specs.Parts.{keep_tree}
use Rattle.gta_syntax.specs.Sources.{symbols_in}
use Rattle.gta_syntax.specs.Rules.{begins_word, begins_later, and_lit_with, conj_with, or_conj_with, expr_with, lit_at}
use Rattle.gta_syntax.proofs.Loops.{GroupedSoFar}
use Rattle.gta_syntax.proofs.keep.+keep.Given as goal

abbrev pub decreases-lit_at : goal.decreases-lit_at
decreases-lit_at l = 5 * l.depth

abbrev pub decreases-and_lit_at : goal.decreases-and_lit_at
decreases-and_lit_at l = 5 * l.depth + 1

abbrev pub decreases-conj_at : goal.decreases-conj_at
decreases-conj_at l = 5 * l.depth + 2

abbrev pub decreases-or_conj_at : goal.decreases-or_conj_at
decreases-or_conj_at l = 5 * l.depth + 3

abbrev pub decreases-expr_at : goal.decreases-expr_at
decreases-expr_at l = 5 * l.depth + 4

abbrev pub invariant-conj_at-loop : goal.invariant-conj_at-loop
invariant-conj_at-loop l = GroupedSoFar all_of (begins_word (codes "and")) (and_lit_with (lit_at l.depth))
    (l.end - l.counter) (keep_tree l.conj) (symbols_in l.source l.rest)
    (conj_with (lit_at l.depth) (symbols_in l.source l.tokens))

abbrev pub invariant-expr_at-loop : goal.invariant-expr_at-loop
invariant-expr_at-loop l = GroupedSoFar any_of (begins_later (codes "or")) (or_conj_with (lit_at l.depth))
    (l.end - l.counter) (keep_tree l.expr) (symbols_in l.source l.rest)
    (expr_with (lit_at l.depth) (symbols_in l.source l.tokens))
