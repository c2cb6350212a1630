use mir.Syntax.{w128}
use Rattle.std.proofs.Common.{ℤ, Some, sym, ap, ◌∙◌, subst, ◌≡◌, pos, true, arith}
use Rattle.std.specs.Int.RustNames.{int_lt}
use Rattle.std.proofs.lemmas.Int.{to_z-of_z}
use Rattle.gta_checked.specs.PlainRows.{plain_rows}
use Rattle.test_homs.specs.declared.negatives.Negative.{Negative}
use Rattle.test_homs.proofs.Firsts.{negative-first, negative-nowhere}
use Rattle.test_homs.proofs.negatives.negative_at.Goals as goal

pub returns-then-value-lt0 : goal.returns-then-value-lt0
returns-then-value-lt0 c =
    let same = to_z-of_z w128 c.value_of-value.result (record { sfits = c.value_of-value.type_inv })
    ∙ c.value_of-value.ensures.value in
    let negative : ℤ → Negative =
    λ v. record { test = c.args.test; row = c.args.row; label = c.loop-label.label; value = v } in
    ap (λ v. Some (negative v)) same
    ∙ sym (negative-first c.args.checked.now (plain_rows c.args.rows.now) c.args.test c.args.measure c.args.row
    c.loop-label.label (omega (arith, c.loop-label-test.true, c.label_count-label-end.ensures.labels))
    c.loop-label.invariant (subst (λ (v : ℤ). int_lt v (pos 0) ≡ true) same c.if-value-lt0.true))

pub returns : goal.returns
returns c =
    sym (negative-nowhere c.args.checked.now (plain_rows c.args.rows.now) c.args.test c.args.measure c.args.row
    (λ k below. c.loop-label.invariant k (omega (arith, c.loop-label-test.false, c.label_count-label-end.ensures.labels))))
