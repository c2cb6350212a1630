use Rattle.steal_deal.specs.Hands.{IsDealtWith}
use Rattle.runtime_tests.proofs.leaf_numbers.steal_all.Given as goal

abbrev pub invariant-loop : goal.invariant-loop
invariant-loop l = IsDealtWith l.blocks l.hand

abbrev pub invariant-loop-from : goal.invariant-loop-from
invariant-loop-from l = IsDealtWith l.blocks l.hand
