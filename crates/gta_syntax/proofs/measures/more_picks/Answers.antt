use Rattle.std.proofs.Common.{◌≡◌, ◌+◌, ◌-◌, length, map, ◌++◌, ◌∷◌, [], arith, sym}
use Rattle.std.proofs.lemmas.Result.{err_from_is_err_and}
use Rattle.std.proofs.lemmas.List.{map_push}
use Rattle.gta_spec.specs.Parts.{pick_tree}
use Rattle.gta_syntax.specs.Sources.{symbols_in}
use Rattle.gta_syntax.proofs.Loops.{at_stop, at_done, at_item, at_fault}
use Rattle.gta_syntax.proofs.measures.more_picks.Goals as goal

pub returns-then-not-begins_sign : goal.returns-then-not-begins_sign
returns-then-not-begins_sign c =
    at_stop c.loop.invariant (sym c.if-not-begins_sign.ensures) (length c.args.tokens.now - (c.loop.counter + 1))
    (omega (arith, c.loop-test.true))

pub returns-in_err-pick : goal.returns-in_err-pick
returns-in_err-pick c =
    let p = err_from_is_err_and c.from_residual.result c.from_residual.ensures.1 in
    rw (p.1, p.2) (at_fault c.loop.invariant (sym c.if-not-begins_sign.ensures)
    (length c.args.tokens.now - (c.loop.counter + 1)) (omega (arith, c.loop-test.true)) c.in_err-pick.field-0.0
    c.in_err-pick.ensures)

pub loop-preserved : goal.loop-preserved
loop-preserved c =
    let e : map pick_tree c.push.new.self.items ≡ map pick_tree c.loop.picks.items ++ pick_tree c.in_ok-pick.pick ∷ [] =
    rw c.in_ok-push.ensures.items (map_push _ c.loop.picks.items c.in_ok-pick.pick) in
    rw e (at_item c.loop.invariant (sym c.if-not-begins_sign.ensures)
    (length c.args.tokens.now - (c.loop.counter + 1)) (omega (arith, c.loop-test.true))
    (pick_tree c.in_ok-pick.pick) (symbols_in c.args.source c.in_ok-pick.after.now) c.in_ok-pick.ensures)

pub returns : goal.returns
returns c = at_done c.loop.invariant (omega (arith, c.loop-test.false))
