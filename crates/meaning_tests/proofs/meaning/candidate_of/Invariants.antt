use Rattle.gta_meaning.specs.InRange.{IsInRange}
use Rattle.meaning_tests.proofs.meaning.candidate_of.Given as goal

abbrev pub invariant-loop-row : goal.invariant-loop-row
invariant-loop-row l = IsInRange l.row 2 l.marks.items
