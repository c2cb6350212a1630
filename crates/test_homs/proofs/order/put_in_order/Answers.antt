use Rattle.std.proofs.Common.{rules}
use Rattle.std.proofs.lemmas.List.Sorted.{IsNonDecreasingBy-from_sort_by_key}
use Rattle.monoid_product.specs.ComponentOf.{plain_component}
use Rattle.test_homs.specs.declared.prepared.Prepared.{Prepared}
use Rattle.test_homs.specs.Order.{rank}
use Rattle.test_homs.proofs.order.put_in_order.Goals as goal

pub returns-clause-ranked : goal.returns-clause-ranked
returns-clause-ranked c =
    IsNonDecreasingBy-from_sort_by_key (λ (test : Prepared). rank (plain_component test.component)) _
    c.in_ok-sort_by_key.ensures.sorted (λ a r q k. search rules)
