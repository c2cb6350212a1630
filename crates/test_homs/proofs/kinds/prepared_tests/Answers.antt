use Rattle.std.proofs.Common.{◌<◌, [], ◌∷◌, length, map, ap, ◌∙◌, arith}
use Rattle.std.proofs.lemmas.List.{map-append}
use Rattle.gta_checked.specs.Plain.{PlainTest, plain_test}
use Rattle.gta_checked.specs.PlainRows.{plain_rows}
use Rattle.gta_checked.specs.Within.{IsTestWithin}
use Rattle.gta_meaning.specs.InRange.{label_count}
use Rattle.gta_meaning.proofs.Parts.{item-at, item-within}
use Rattle.test_homs.specs.Kinds.{hom_of}
use Rattle.test_homs.specs.Prepared.{no_test, plain_prepared, prepared_of, prepared_test}
use Rattle.test_homs.proofs.Pieces.{items-more}
use Rattle.test_homs.proofs.kinds.prepared_tests.Goals as goal

pub prepared_test-requires-clause-within : goal.prepared_test-requires-clause-within
prepared_test-requires-clause-within c =
    let checked = c.args.checked.now in
    let items = c.tests-tests.result.now.items in
    let in_range : c.loop-number.number < length items =
    omega (arith, c.loop-number-test.true, c.len-number-end.ensures, c.tests-tests.result.now.ok) in
    item-within plain_test items checked.tests c.tests-tests.ensures.tests
    (IsTestWithin (length checked.columns) (length checked.labels) (length checked.measures) checked.tables
    checked.automata)
    c.loop-number.number c.index.result.now in_range c.index.ensures c.tests-tests.ensures.within.tests

pub loop-number-preserved : goal.loop-number-preserved
loop-number-preserved c =
    let checked = c.args.checked.now in let rows = plain_rows c.args.rows.now in
    let items = c.tests-tests.result.now.items in
    let number = c.loop-number.number in
    let in_range : number < length items =
    omega (arith, c.loop-number-test.true, c.len-number-end.ensures, c.tests-tests.result.now.ok) in
    let test = item-at plain_test items checked.tests c.tests-tests.ensures.tests number c.index.result.now no_test
    in_range c.index.ensures in
    items-more (prepared_test checked rows) [] _ _ _ _ c.loop-number.invariant
    (ap (map plain_prepared) c.in_ok-push.ensures.items
    ∙ map-append plain_prepared c.loop-number.prepared.items (c.in_ok-prepared_test.field-0 ∷ []))
    (c.in_ok-prepared_test.ensures
    ∙ ap (λ (t : PlainTest). prepared_of rows (label_count checked) number (hom_of checked t)) test)
