use Rattle.std.proofs.Common.{◌≤◌}
use Rattle.meaning_tests.proofs.meaning.passing.Given as goal

abbrev pub invariant-loop-code : goal.invariant-loop-code
invariant-loop-code l = l.found ≤ l.code
