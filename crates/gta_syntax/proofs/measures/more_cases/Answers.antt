use Rattle.std.proofs.Common.{◌≡◌, ◌+◌, ◌-◌, length, map, ◌++◌, ◌∷◌, [], arith, sym}
use Rattle.std.proofs.lemmas.Result.{err_from_is_err_and}
use Rattle.std.proofs.lemmas.List.{map_push}
use Rattle.gta_spec.specs.Parts.{case_tree}
use Rattle.gta_syntax.specs.Sources.{symbols_in}
use Rattle.gta_syntax.proofs.Loops.{at_stop, at_done, at_item, at_fault}
use Rattle.gta_syntax.proofs.measures.more_cases.Goals as goal

pub returns-then-not-begins_sign : goal.returns-then-not-begins_sign
returns-then-not-begins_sign c =
    at_stop c.loop.invariant (sym c.if-not-begins_sign.ensures) (length c.args.tokens.now - (c.loop.counter + 1))
    (omega (arith, c.loop-test.true))

pub returns-in_err-case : goal.returns-in_err-case
returns-in_err-case c =
    let p = err_from_is_err_and c.from_residual.result c.from_residual.ensures.1 in
    rw (p.1, p.2) (at_fault c.loop.invariant (sym c.if-not-begins_sign.ensures)
    (length c.args.tokens.now - (c.loop.counter + 1)) (omega (arith, c.loop-test.true)) c.in_err-case.field-0.0
    c.in_err-case.ensures)

pub loop-preserved : goal.loop-preserved
loop-preserved c =
    let e : map case_tree c.push.new.self.items ≡ map case_tree c.loop.cases.items ++ case_tree c.in_ok-case.case ∷ [] =
    rw c.in_ok-push.ensures.items (map_push _ c.loop.cases.items c.in_ok-case.case) in
    rw e (at_item c.loop.invariant (sym c.if-not-begins_sign.ensures)
    (length c.args.tokens.now - (c.loop.counter + 1)) (omega (arith, c.loop-test.true))
    (case_tree c.in_ok-case.case) (symbols_in c.args.source c.in_ok-case.after.now) c.in_ok-case.ensures)

pub returns : goal.returns
returns c = at_done c.loop.invariant (omega (arith, c.loop-test.false))
