use Rattle.std.proofs.Common.{◌∙◌, sym, arith}
use Rattle.board_core.proofs.PlaceLemmas.{alike, unlike, walk_on, walk_found, pair_none}
use Rattle.board_core.proofs.places.pair_place.Goals as goal

pub returns-then-adjoin-clause-pair : goal.returns-then-adjoin-clause-pair
returns-then-adjoin-clause-pair g c =
    (walk_found c.args.held.now.items c.loop-at.at c.index.result.now c.index-in-loop-at.result.now (omega arith)
    (omega arith)
    c.index.ensures c.index-in-loop-at.ensures (alike _ _ (sym c.adjoin.ensures ∙ c.if-adjoin.true))
    c.loop-at.invariant).0

pub returns-then-adjoin-clause-found : goal.returns-then-adjoin-clause-found
returns-then-adjoin-clause-found g c =
    λ _. (walk_found c.args.held.now.items c.loop-at.at c.index.result.now c.index-in-loop-at.result.now
    (omega arith) (omega arith)
    c.index.ensures c.index-in-loop-at.ensures (alike _ _ (sym c.adjoin.ensures ∙ c.if-adjoin.true))
    c.loop-at.invariant).1

pub loop-at-preserved : goal.loop-at-preserved
loop-at-preserved g c =
    walk_on c.args.held.now.items c.loop-at.at c.index.result.now c.index-in-loop-at.result.now (omega arith)
    (omega arith)
    c.index.ensures c.index-in-loop-at.ensures (unlike _ _ (sym c.adjoin.ensures ∙ c.if-adjoin.false))
    c.loop-at.invariant

pub returns-clause-no_pair : goal.returns-clause-no_pair
returns-clause-no_pair g c = let filled = c.args.held.now.ok in pair_none c.args.held.now.items
    (λ k within. c.loop-at.invariant k (omega arith))
