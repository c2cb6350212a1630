use Rattle.std.proofs.Common.{map, length, ap, ◌∙◌, subst, arith}
use Rattle.gta_checked.specs.Plain.{PlainTest, plain_test}
use Rattle.gta_checked.specs.Within.{IsTestWithin}
use Rattle.std.proofs.Common.{List}
use Rattle.gta_meaning.specs.Elements.{AreAccepted}
use Rattle.gta_meaning.proofs.Accepted.{accepted-all}
use Rattle.gta_meaning.proofs.Parts.{item-within}
use Rattle.gta_meaning.proofs.elements.accepted_elements.Goals as goal

pub accepted_by-requires : goal.accepted_by-requires
accepted_by-requires c =
    let checked = c.args.checked.now in
    let same = ap (map plain_test) c.deref-test-items.ensures.value ∙ c.tests-tests.ensures.tests in
    record {
      within = item-within plain_test c.deref-test-items.result.now checked.tests same
          (IsTestWithin (length checked.columns) (length checked.labels) (length checked.measures) checked.tables
          checked.automata)
          c.loop-test.test-index c.test-item.result c.loop-test-test.true c.test-item.is
          c.tests-tests.ensures.within.tests;
    }

pub returns : goal.returns
returns c =
    let same = ap (map plain_test) c.deref-test-items.ensures.value ∙ c.tests-tests.ensures.tests in
    subst (λ (tests : List PlainTest). AreAccepted tests c.loop-test.sets.items) same
    (accepted-all c.deref-test-items.result.now c.loop-test.sets.items
    (omega (arith, c.loop-test.invariant.count, c.loop-test-test.false, c.loop-test.auto.test-index-end))
    (λ k test set below. c.loop-test.invariant.each k test set (omega (arith, c.loop-test-test.false))))
