use Rattle.semiring_kit.specs.Semiring.{IsGood}
use Rattle.list_tests.proofs.best_lists.sum_of_candidates.Given as goal

abbrev pub invariant-candidates : goal.invariant-candidates
invariant-candidates g l = IsGood (g.S.Semiring.ring l.kit) l.sum
