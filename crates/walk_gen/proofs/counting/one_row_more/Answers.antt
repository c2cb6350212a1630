use Rattle.std.proofs.Common.{◌≡◌, ◌<◌, ◌++◌, [], ◌∷◌, None, length, get_or, set, take, refl, sym, ap, subst, ◌∙◌, arith}
use Rattle.std.proofs.lemmas.Grind.{take_at_read}
use Rattle.std.proofs.lemmas.List.{length-set, take_all}
use Rattle.walk_gen.specs.declared.walker.Move.{Move}
use Rattle.walk_gen.specs.Walks.{moved}
use Rattle.walk_gen.specs.Extents.{HaveExtents, joined, no_candidate, with_row}
use Rattle.walk_gen.proofs.Sizes.{one_move_more}
use Rattle.walk_gen.proofs.counting.one_row_more.Goals as goal

-- what stands past the last move
abbrev no_move : Move
no_move = record { from = 0; to = 0; take = None }

pub loop-step-preserved : goal.loop-step-preserved
loop-step-preserved c =
    let moves = c.args.moves.now in
    let i = c.loop-step.step-index in
    let more = c.loop-step.more in
    let rest = c.args.extents.now in
    let move = get_or moves i no_move in
    let lt : i < length moves = c.loop-step-test.true in
    let within = c.requires.between i no_move lt in
    let sum : c.joined.result
    ≡ joined (get_or more move.from no_candidate) (with_row move.take (get_or rest move.to no_candidate)) =
    c.joined.ensures ∙ ap (joined (get_or more move.from no_candidate)) c.with_row-rest.ensures in (
      length-set more move.from c.joined.result ∙ c.loop-step.invariant.0,
      λ row lists known.
          subst (λ ms. HaveExtents (moved ms row lists) (set more move.from c.joined.result))
          (sym (take_at_read moves i no_move lt).1)
          (subst (λ v. HaveExtents (moved (take i moves ++ move ∷ []) row lists) (set more move.from v)) (sym sum)
          (one_move_more row lists (take i moves) move rest more move.from refl c.loop-step.invariant.0 within.1
          known (c.loop-step.invariant.1 row lists known))),
    )

pub returns : goal.returns
returns c = λ row lists known.
    let all : take c.loop-step.step-index c.args.moves.now ≡ c.args.moves.now = take_all _ _ (omega arith) in
    subst (λ ms. HaveExtents (moved ms row lists) c.loop-step.more) all (c.loop-step.invariant.1 row lists known)
