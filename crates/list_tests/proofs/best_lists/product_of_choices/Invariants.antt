use Rattle.algebra_tests.proofs.Worked.{IsSmall}
use Rattle.list_tests.proofs.best_lists.product_of_choices.Given as goal

abbrev pub invariant-rows : goal.invariant-rows
invariant-rows g l = IsSmall (g.S.Semiring.ring l.kit) l.weight-index l.product
