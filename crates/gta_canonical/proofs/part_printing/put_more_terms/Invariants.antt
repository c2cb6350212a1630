use Rattle.std.proofs.Common.{◌++◌, [], drop}
use Rattle.gta_canonical.specs.Canonical.{line_text, fronts, next_term_front}
use Rattle.gta_canonical.proofs.Fronts.{Written}
use Rattle.gta_canonical.proofs.part_printing.put_more_terms.Given as goal

abbrev pub invariant-loop-term : goal.invariant-loop-term
invariant-loop-term l = Written next_term_front l.out.items (drop l.term-index l.terms)
    (l.initial.out.items ++ line_text (fronts next_term_front l.terms []))
