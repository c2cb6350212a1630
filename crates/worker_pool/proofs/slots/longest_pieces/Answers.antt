use Rattle.std.proofs.Common.{[], ◌∷◌, ◌++◌, ap, sym, ◌∙◌, append_assoc}
use Rattle.worker_pool.proofs.Longest.{seen_one_more}
use Rattle.worker_pool.proofs.slots.longest_pieces.Goals as goal

pub loop-piece-preserved : goal.loop-piece-preserved
loop-piece-preserved g c = record {
  can_next = tt;
  is_finite = tt;
  rest = c.loop-piece.invariant.rest ∙ ap (λ ps. c.loop-piece.yielded ++ ps) c.in-Some.ensures.steps.0
      ∙ sym (append_assoc c.loop-piece.yielded (c.in-Some.piece ∷ []) _);
  longest = seen_one_more c.args.bounds.now c.loop-piece.yielded c.in-Some.piece c.loop-piece.places
      c.keep_longest.new.slots
      c.keep_longest.ensures c.loop-piece.invariant.longest;
}
