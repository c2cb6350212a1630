use Rattle.std.proofs.Common.{false, length, map, ap, ◌∙◌, subst}
use Rattle.gta_checked.specs.Plain.{plain_test}
use Rattle.gta_checked.specs.Within.{IsTestWithin}
use Rattle.gta_checked.specs.PlainRows.{plain_rows}
use Rattle.gta_meaning.specs.Elements.{IsAccepted}
use Rattle.gta_meaning.specs.Tests.{passes_test}
use Rattle.gta_meaning.proofs.Accepted.{accepted-at}
use Rattle.gta_meaning.proofs.Parts.{image-at, item-within}
use Rattle.gta_meaning.proofs.passing.AskedByOutcomes.holds.Goals as goal

pub passes_test_by-requires-clause-accepted : goal.passes_test_by-requires-clause-accepted
passes_test_by-requires-clause-accepted c =
    let found = c.in-Some.ensures.lookup in
    let same = ap (map plain_test) c.deref.ensures.value ∙ c.tests.ensures.tests in
    subst (IsAccepted (plain_test c.in-Some.test.now)) c.index-self-number.is
    (accepted-at c.deref.result.now c.args.self.now.checked.now.tests same c.args.self.now.accepted.now
    c.requires.within.1 c.args.number c.in-Some.test.now c.index-self-number.result found.3.0 found.1
    c.index-self-number.is)

pub passes_test_by-requires-clause-within : goal.passes_test_by-requires-clause-within
passes_test_by-requires-clause-within c =
    let checked = c.args.self.now.checked.now in
    let found = c.in-Some.ensures.lookup in
    let same = ap (map plain_test) c.deref.ensures.value ∙ c.tests.ensures.tests in
    item-within plain_test c.deref.result.now checked.tests same
    (IsTestWithin (length checked.columns) (length checked.labels) (length checked.measures) checked.tables
    checked.automata)
    c.args.number c.in-Some.test.now found.3.0 found.1 c.tests.ensures.within.tests

pub returns-in-Some : goal.returns-in-Some
returns-in-Some c =
    let checked = c.args.self.now.checked.now in
    let found = c.in-Some.ensures.lookup in
    let same = ap (map plain_test) c.deref.ensures.value ∙ c.tests.ensures.tests in
    c.passes_test_by.ensures
    ∙ image-at plain_test c.deref.result.now checked.tests same
    (passes_test checked (plain_rows c.args.self.now.rows.now) c.args.self.now.candidate.now.marks.items)
    c.args.number c.in-Some.test.now false found.3.0 found.1
