use Rattle.std.proofs.Common.{◌<◌, length, sym, ap, ◌∙◌, arith}
use Rattle.gta_checked.specs.Plain.{plain_test}
use Rattle.gta_checked.specs.PlainRows.{plain_rows}
use Rattle.gta_checked.specs.Within.{IsTestWithin}
use Rattle.gta_checked.specs.declared.resolved.Test.{Test}
use Rattle.gta_meaning.proofs.Parts.{item-within}
use Rattle.test_homs.specs.Negatives.{negative_of_test}
use Rattle.test_homs.proofs.Firsts.{first_negative-at, first_negative-nowhere}
use Rattle.test_homs.proofs.negatives.first_negative.Goals as goal

pub negative_of_test-requires-clause-within : goal.negative_of_test-requires-clause-within
negative_of_test-requires-clause-within c =
    let checked = c.args.checked.now in
    let in_range : c.loop-k.k < length c.tests-tests.result.now.items =
    omega (arith, c.loop-k-test.true, c.len-k-end.ensures, c.tests-tests.result.now.ok) in
    item-within plain_test c.tests-tests.result.now.items checked.tests c.tests-tests.ensures.tests
    (IsTestWithin (length checked.columns) (length checked.labels) (length checked.measures) checked.tables
    checked.automata)
    c.loop-k.k c.index.result.now in_range c.index.ensures c.tests-tests.ensures.within.tests

pub returns-in-Some-clause-first : goal.returns-in-Some-clause-first
returns-in-Some-clause-first c =
    let checked = c.args.checked.now in let rows = plain_rows c.args.rows.now in
    let in_range : c.loop-k.k < length c.tests-tests.result.now.items =
    omega (arith, c.loop-k-test.true, c.len-k-end.ensures, c.tests-tests.result.now.ok) in
    sym (first_negative-at checked rows c.tests-tests.result.now.items c.tests-tests.ensures.tests
    c.loop-k.k c.index.result.now c.in-Some.negative in_range
    (λ k below. c.loop-k.invariant k c.index.result.now below)
    (ap (λ (t : Test). negative_of_test checked rows c.loop-k.k (plain_test t)) (sym c.index.ensures)
    ∙ sym c.negative_of_test.ensures ∙ c.in-Some.is))

pub returns-clause-first : goal.returns-clause-first
returns-clause-first c =
    sym (first_negative-nowhere c.args.checked.now (plain_rows c.args.rows.now) c.tests-tests.result.now.items
    c.tests-tests.ensures.tests
    (λ k d below. c.loop-k.invariant k d
    (omega (arith, c.loop-k-test.false, c.len-k-end.ensures, c.tests-tests.result.now.ok))))
