use Rattle.std.proofs.Common.{◌≡◌, map, take}
use Rattle.monoid_product.specs.ComponentOf.{plain_component}
use Rattle.test_homs.proofs.joined.components.Given as goal

-- the monoids of the tests so far
abbrev pub invariant-loop-test : goal.invariant-loop-test
invariant-loop-test l =
    map plain_component l.parts.items
    ≡ map (λ test. plain_component test.component) (take l.test-index l.tests)
