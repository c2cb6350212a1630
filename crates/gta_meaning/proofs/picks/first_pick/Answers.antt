use Rattle.std.proofs.Common.{◌≡◌, All, map, true, Some, refl, sym, ap, ◌∙◌, subst, arith}
use Rattle.gta_checked.specs.declared.resolved.Pick.{Pick}
use Rattle.gta_checked.specs.Plain.{PlainPick, plain_pick}
use Rattle.gta_checked.specs.Within.{IsAtomWithin, IsPickWithin}
use Rattle.gta_checked.specs.PlainRows.{plain_rows}
use Rattle.gta_meaning.specs.Values.{holds}
use Rattle.gta_meaning.proofs.First.{find-map-first, find-map-none}
use Rattle.gta_meaning.proofs.Parts.{item-within}
use Rattle.gta_meaning.proofs.picks.first_pick.Goals as goal

pub holds-requires-clause-within : goal.holds-requires-clause-within
holds-requires-clause-within c =
    let w = c.requires.within in
    let pick = item-within plain_pick c.args.picks.now (map plain_pick c.args.picks.now) refl
    (IsPickWithin c.args.rows.now.columns w.0 w.1) c.loop-pick.pick-index c.pick-item.result
    c.loop-pick-test.true c.pick-item.is w.2 in
    (w.0, subst (All (IsAtomWithin c.args.rows.now.columns w.0)) (sym c.deref.ensures.value) pick.1.1)

pub returns-then-holds : goal.returns-then-holds
returns-then-holds c =
    let rows = plain_rows c.args.rows.now in
    let here : holds rows c.args.row c.args.label c.pick-item.result.cond.items ≡ true =
    rw c.deref.ensures.value at (sym c.holds.ensures ∙ c.if-holds.true) in
    let first = find-map-first plain_pick (λ (pick : PlainPick). holds rows c.args.row c.args.label pick.cond)
    c.args.picks.now c.loop-pick.pick-index c.pick-item.result c.loop-pick-test.true
    (λ k less. c.loop-pick.invariant k c.pick-item.result less) (rw (← c.pick-item.is) here) in
    rw first (ap (λ (pick : Pick). Some pick.element) c.pick-item.is)

pub returns : goal.returns
returns c =
    let rows = plain_rows c.args.rows.now in
    let none = find-map-none plain_pick (λ (pick : PlainPick). holds rows c.args.row c.args.label pick.cond)
    c.args.picks.now (λ k d less. c.loop-pick.invariant k d (omega arith)) in
    rw none refl
