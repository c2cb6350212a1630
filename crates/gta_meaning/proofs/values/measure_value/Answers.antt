use Rattle.std.proofs.Common.{◌≡◌, All, true, sym, ap, ◌∙◌, subst, arith}
use Rattle.std.proofs.lemmas.Int.{ints}
use Rattle.gta_checked.specs.Within.{IsAtomWithin, IsTermWithin}
use Rattle.gta_checked.specs.PlainRows.{plain_rows}
use Rattle.gta_meaning.specs.Values as values
use Rattle.gta_meaning.proofs.Parts.{case-within}
use Rattle.gta_meaning.proofs.Cases.{measure_value-first, measure_value-none}
use Rattle.gta_meaning.proofs.values.measure_value.Goals as goal

pub holds-requires-clause-within : goal.holds-requires-clause-within
holds-requires-clause-within c =
    let w = c.requires.within in
    let case = case-within c.args.rows.now.columns w.0 _ _ _ c.case-item.result
    c.deref-case-items.ensures.value c.loop-case-test.true c.case-item.is w.1.1 in
    (w.0, subst (All (IsAtomWithin c.args.rows.now.columns w.0)) (sym c.deref.ensures.value) case.condition.1)

pub form_value-requires-clause-few : goal.form_value-requires-clause-few
form_value-requires-clause-few c =
    let w = c.requires.within in
    let case = case-within c.args.rows.now.columns w.0 _ _ _ c.case-item.result
    c.deref-case-items.ensures.value c.loop-case-test.true c.case-item.is w.1.1 in
    rw c.deref-then-holds.ensures.value case.few_terms

pub form_value-requires-clause-within : goal.form_value-requires-clause-within
form_value-requires-clause-within c =
    let w = c.requires.within in
    let case = case-within c.args.rows.now.columns w.0 _ _ _ c.case-item.result
    c.deref-case-items.ensures.value c.loop-case-test.true c.case-item.is w.1.1 in
    subst (All (IsTermWithin c.args.rows.now.columns)) (sym c.deref-then-holds.ensures.value) case.terms

pub returns-then-holds-clause-value : goal.returns-then-holds-clause-value
returns-then-holds-clause-value c =
    let here : values.holds (plain_rows c.args.rows.now) c.args.row c.args.label c.case-item.result.cond.items ≡ true =
    rw c.deref.ensures.value at (sym c.holds.ensures ∙ c.if-holds.true) in
    let first = measure_value-first (plain_rows c.args.rows.now) c.args.row c.args.label c.args.measure.now _
    c.deref-case-items.ensures.value c.loop-case.case-index c.case-item.result
    c.loop-case-test.true c.case-item.is c.loop-case.invariant here in
    let form = ap (values.form_value (plain_rows c.args.rows.now) c.args.row) c.deref-then-holds.ensures.value in
    omega (arith, ints, c.form_value.ensures.value ∙ form ∙ first)

pub returns-clause-value : goal.returns-clause-value
returns-clause-value c =
    let none = measure_value-none (plain_rows c.args.rows.now) c.args.row c.args.label c.args.measure.now _
    c.deref-case-items.ensures.value (λ k d less. c.loop-case.invariant k d (omega arith)) in
    omega (arith, ints, none)
