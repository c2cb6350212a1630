use Rattle.std.proofs.Common.{◌+◌, ◌-◌, length, arith, sym}
use Rattle.std.proofs.lemmas.Result.{err_from_is_err_and}
use Rattle.gta_syntax.specs.Sources.{symbols_in}
use Rattle.gta_syntax.proofs.Loops.{at_stop, at_done, at_item, at_fault}
use Rattle.gta_syntax.proofs.goals.more_ranks.Goals as goal

pub returns-then-not-begins_later : goal.returns-then-not-begins_later
returns-then-not-begins_later c =
    at_stop c.loop.invariant (sym c.if-not-begins_later.ensures) (length c.args.tokens.now - (c.loop.counter + 1))
    (omega (arith, c.loop-test.true))

pub returns-in_err-rank : goal.returns-in_err-rank
returns-in_err-rank c =
    let p = err_from_is_err_and c.from_residual.result c.from_residual.ensures.1 in
    rw (p.1, p.2) (at_fault c.loop.invariant (sym c.if-not-begins_later.ensures)
    (length c.args.tokens.now - (c.loop.counter + 1)) (omega (arith, c.loop-test.true)) c.in_err-rank.field-0.0
    c.in_err-rank.ensures)

pub loop-preserved : goal.loop-preserved
loop-preserved c =
    rw c.in_ok-push.ensures.items
    (at_item c.loop.invariant (sym c.if-not-begins_later.ensures)
    (length c.args.tokens.now - (c.loop.counter + 1)) (omega (arith, c.loop-test.true)) c.in_ok-rank.rank
    (symbols_in c.args.source c.in_ok-rank.after.now) c.in_ok-rank.ensures)

pub returns : goal.returns
returns c = at_done c.loop.invariant (omega (arith, c.loop-test.false))
