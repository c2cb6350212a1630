use Rattle.std.proofs.Common.{◌≡◌, ◌<◌, ◌==◌, true, false, length, get_or, refl, sym, subst, ap, ◌∙◌, arith}
use Rattle.std.proofs.lemmas.Bool.Decides.{nat_tests}
use Rattle.gta_meaning.proofs.Parts.{item-within}
use Rattle.monoid_product.specs.Product.{digits}
use Rattle.test_homs.specs.declared.prepared.Prepared.{Prepared}
use Rattle.test_homs.specs.Joined.{components}
use Rattle.test_homs.specs.Prepared.{PlainPrepared, plain_prepared}
use Rattle.test_homs.proofs.Digits.{plains, length-key_digits, outcomes_of-first, outcomes_of-nowhere}
use Rattle.test_homs.proofs.joined.AskedOutcomes.holds.Goals as goal

pub returns-then-test-number : goal.returns-then-test-number
returns-then-test-number c =
    let tests = c.args.self.now.tests.now in
    let key = c.args.self.now.key in
    let place = c.loop-place.place in
    let test = c.index-self-place.result in
    let ds = digits (components (plains tests)) key in
    let digit = c.digit.ensures.digit ∙ ap (λ parts. get_or (digits parts key) place 0) c.requires.within.2 in
    let numbered = item-within plain_prepared tests (plains tests) refl
    (λ (t : PlainPrepared). t.number < length (plains tests)) place test c.loop-place-test.true c.index-self-place.is
    c.requires.within.1 in
    let same : test.number ≡ c.args.number =
    ap (λ (t : Prepared). t.number) c.index-self-place.is ∙ c.if-test-number.true in
    let here : (test.number == c.args.number) ≡ true = grind (arith, nat_tests) in
    c.accepts.ensures
    ∙ ap (λ element. get_or (get_or tests place test).accept.items element false) digit
    ∙ sym (outcomes_of-first tests ds c.args.number place test (length-key_digits tests key)
    (omega (arith, numbered, same)) c.loop-place-test.true c.loop-place.invariant
    (subst (λ (t : Prepared). (t.number == c.args.number) ≡ true) c.index-self-place.is here))

pub returns : goal.returns
returns c =
    let tests = c.args.self.now.tests.now in
    sym (outcomes_of-nowhere tests (digits (components (plains tests)) c.args.self.now.key) c.args.number
    (λ j e below. c.loop-place.invariant j e (omega (arith, c.loop-place-test.false))))
