use Rattle.algebra_tests.proofs.Worked.{IsSmall}
use Rattle.list_tests.proofs.best_lists.candidate.Given as goal

abbrev pub invariant-marks : goal.invariant-marks
invariant-marks g l = IsSmall (g.S.Semiring.ring l.kit) l.row-index l.product
