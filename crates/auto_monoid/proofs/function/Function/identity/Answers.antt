use Rattle.std.proofs.Common.{[], ◌∷◌, ◌++◌, ap, ◌∙◌, sym}
use Rattle.auto_monoid.proofs.Words.{range-push}
use Rattle.auto_monoid.proofs.function.Function.identity.Goals as goal

pub loop-state-preserved : goal.loop-state-preserved
loop-state-preserved c =
    c.in_ok-push.ensures.items
    ∙ ap (λ xs. xs ++ c.loop-state.state ∷ []) c.loop-state.invariant
    ∙ sym (range-push c.loop-state.state)
