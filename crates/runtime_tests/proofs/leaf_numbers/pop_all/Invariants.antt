use Rattle.steal_deal.specs.Hands.{IsDealtWith}
use Rattle.runtime_tests.proofs.leaf_numbers.pop_all.Given as goal

abbrev pub invariant-loop : goal.invariant-loop
invariant-loop l = IsDealtWith l.blocks l.hand
