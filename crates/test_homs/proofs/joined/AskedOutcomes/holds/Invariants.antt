use Rattle.test_homs.proofs.Digits.{NoneBefore}
use Rattle.test_homs.proofs.joined.AskedOutcomes.holds.Given as goal

-- no test so far has the number
abbrev pub invariant-loop-place : goal.invariant-loop-place
invariant-loop-place l = NoneBefore l.self.tests.now l.number l.place
