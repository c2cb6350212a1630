use Rattle.std.proofs.Common.{◌+◌, ◌-◌, length, arith, sym}
use Rattle.std.proofs.lemmas.List.{length-map}
use Rattle.std.proofs.lemmas.Result.{err_from_is_err_and}
use Rattle.gta_text.specs.declared.token.Token.{Token}
use Rattle.gta_spec.specs.Parts.{keep_tree}
use Rattle.gta_spec.specs.Symbols.{Symbol}
use Rattle.gta_syntax.specs.Sources.{symbols_in}
use Rattle.gta_syntax.proofs.Loops.{grouped_stop, grouped_done, grouped_item, grouped_fault}
use Rattle.gta_syntax.proofs.KeepLoops.{all_of-IsGrouping, any_of-IsGrouping, conj_start, expr_start}
use Rattle.gta_syntax.proofs.KeepLoops.{not_at_zero, not_at_fault, not_at_part, nested_at_zero, nested_at_fault}
use Rattle.gta_syntax.proofs.KeepLoops.{nested_at_end, nested_at_part, test_at_fault, test_at_name}
use Rattle.gta_syntax.proofs.keep.+keep.Goals as goal

pub conj_at-loop-init : goal.conj_at-loop-init
conj_at-loop-init t c = conj_start _ _ _ c.in_ok-conj.ensures (omega (arith, length-map {A = Token} {B = Symbol}))

pub conj_at-returns-then-not-begins_word : goal.conj_at-returns-then-not-begins_word
conj_at-returns-then-not-begins_word t c = grouped_stop all_of-IsGrouping c.loop.invariant
    (sym c.if-not-begins_word.ensures) (length c.in_ok-conj.rest.now - (c.loop.counter + 1))
    (omega (arith, c.loop-test.true))

pub conj_at-returns-in_err-next : goal.conj_at-returns-in_err-next
conj_at-returns-in_err-next t c =
    let p = err_from_is_err_and c.from_residual-in_err-next.result c.from_residual-in_err-next.ensures.1 in
    rw (p.1, p.2) (grouped_fault all_of-IsGrouping c.loop.invariant (sym c.if-not-begins_word.ensures)
    (length c.in_ok-conj.rest.now - (c.loop.counter + 1)) (omega (arith, c.loop-test.true)) c.in_err-next.field-0.0
    c.in_err-next.ensures)

pub conj_at-loop-preserved : goal.conj_at-loop-preserved
conj_at-loop-preserved t c =
    rw c.in_ok-conj-2.ensures
    (grouped_item all_of-IsGrouping c.loop.invariant (sym c.if-not-begins_word.ensures)
    (length c.in_ok-conj.rest.now - (c.loop.counter + 1)) (omega (arith, c.loop-test.true))
    (keep_tree c.in_ok-next.next)
    (symbols_in c.args.source c.in_ok-next.after.now) c.in_ok-next.ensures)

pub conj_at-returns : goal.conj_at-returns
conj_at-returns t c = grouped_done all_of-IsGrouping c.loop.invariant (omega (arith, c.loop-test.false))

pub expr_at-loop-init : goal.expr_at-loop-init
expr_at-loop-init t c = expr_start _ _ _ c.in_ok-expr.ensures (omega (arith, length-map {A = Token} {B = Symbol}))

pub expr_at-returns-then-not-begins_later : goal.expr_at-returns-then-not-begins_later
expr_at-returns-then-not-begins_later t c = grouped_stop any_of-IsGrouping c.loop.invariant
    (sym c.if-not-begins_later.ensures) (length c.in_ok-expr.rest.now - (c.loop.counter + 1))
    (omega (arith, c.loop-test.true))

pub expr_at-returns-in_err-next : goal.expr_at-returns-in_err-next
expr_at-returns-in_err-next t c =
    let p = err_from_is_err_and c.from_residual-in_err-next.result c.from_residual-in_err-next.ensures.1 in
    rw (p.1, p.2) (grouped_fault any_of-IsGrouping c.loop.invariant (sym c.if-not-begins_later.ensures)
    (length c.in_ok-expr.rest.now - (c.loop.counter + 1)) (omega (arith, c.loop-test.true)) c.in_err-next.field-0.0
    c.in_err-next.ensures)

pub expr_at-loop-preserved : goal.expr_at-loop-preserved
expr_at-loop-preserved t c =
    rw c.in_ok-expr-2.ensures
    (grouped_item any_of-IsGrouping c.loop.invariant (sym c.if-not-begins_later.ensures)
    (length c.in_ok-expr.rest.now - (c.loop.counter + 1)) (omega (arith, c.loop-test.true))
    (keep_tree c.in_ok-next.next)
    (symbols_in c.args.source c.in_ok-next.after.now) c.in_ok-next.ensures)

pub expr_at-returns : goal.expr_at-returns
expr_at-returns t c = grouped_done any_of-IsGrouping c.loop.invariant (omega (arith, c.loop-test.false))

pub lit_at-returns-then-depth-eq0 : goal.lit_at-returns-then-depth-eq0
lit_at-returns-then-depth-eq0 t c =
    not_at_zero c.args.depth _ (sym c.in-Some.ensures) (omega (arith, c.if-depth-eq0.true))

pub lit_at-returns-in_err-part : goal.lit_at-returns-in_err-part
lit_at-returns-in_err-part t c =
    let p = err_from_is_err_and c.from_residual.result c.from_residual.ensures.1 in
    rw (p.1, p.2) (not_at_fault c.args.depth _ (sym c.in-Some.ensures) (c.args.depth - 1)
    (omega (arith, c.if-depth-eq0.false)) c.in_err-part.field-0.0 c.in_err-part.ensures)

pub lit_at-returns-in-Some : goal.lit_at-returns-in-Some
lit_at-returns-in-Some t c =
    rw c.in_ok-negation.ensures
    (not_at_part c.args.depth _ (sym c.in-Some.ensures) (c.args.depth - 1)
    (omega (arith, c.if-depth-eq0.false)) c.in_ok-part.ensures)

pub lit_at-returns-then-depth-eq0-2 : goal.lit_at-returns-then-depth-eq0-2
lit_at-returns-then-depth-eq0-2 t c =
    nested_at_zero c.args.depth _ (sym c.in_default.ensures) (sym c.in-Some-sign.ensures)
    (omega (arith, c.if-depth-eq0-2.true))

pub lit_at-returns-in_err-part-2 : goal.lit_at-returns-in_err-part-2
lit_at-returns-in_err-part-2 t c =
    let p = err_from_is_err_and c.from_residual-in_err-part-2.result c.from_residual-in_err-part-2.ensures.1 in
    rw (p.1, p.2) (nested_at_fault c.args.depth _ (sym c.in_default.ensures) (sym c.in-Some-sign.ensures)
    (c.args.depth - 1) (omega (arith, c.if-depth-eq0-2.false)) c.in_err-part-2.field-0.0 c.in_err-part-2.ensures)

pub lit_at-returns-in_err-rest : goal.lit_at-returns-in_err-rest
lit_at-returns-in_err-rest t c =
    let p = err_from_is_err_and c.from_residual-in_err-rest.result c.from_residual-in_err-rest.ensures.1 in
    rw (p.1, p.2) (nested_at_end c.args.depth _ (sym c.in_default.ensures) (sym c.in-Some-sign.ensures)
    (c.args.depth - 1) (omega (arith, c.if-depth-eq0-2.false)) c.in_ok-part-2.ensures
    c.in_err-rest.field-0.0 c.in_err-rest.ensures)

pub lit_at-returns-in-Some-sign : goal.lit_at-returns-in-Some-sign
lit_at-returns-in-Some-sign t c = nested_at_part c.args.depth _ (sym c.in_default.ensures) (sym c.in-Some-sign.ensures)
    (c.args.depth - 1) (omega (arith, c.if-depth-eq0-2.false)) c.in_ok-part-2.ensures c.in_ok-rest.ensures

pub lit_at-returns-in_err-name : goal.lit_at-returns-in_err-name
lit_at-returns-in_err-name t c =
    let p = err_from_is_err_and c.from_residual-in_err-name.result c.from_residual-in_err-name.ensures.1 in
    rw (p.1, p.2) (test_at_fault c.args.depth _ (sym c.in_default.ensures) (sym c.in_default-sign.ensures)
    c.in_err-name.field-0.0 c.in_err-name.ensures)

pub lit_at-returns : goal.lit_at-returns
lit_at-returns t c = test_at_name c.args.depth _ (sym c.in_default.ensures) (sym c.in_default-sign.ensures)
    c.in_ok-name.ensures
