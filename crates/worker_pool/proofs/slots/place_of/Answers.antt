use Rattle.std.proofs.Common.{◌≡◌, ◌==◌, ◌<◌, ℕ, length, get_or, false, true, MatchOption, sym, subst}
use Rattle.std.specs.List.{list_any}
use Rattle.worker_pool.specs.Walk.{fits}
use Rattle.worker_pool.proofs.Longest.{ends_nowhere}
use Rattle.worker_pool.proofs.slots.place_of.Goals as goal

pub returns-in_err-index_of : goal.returns-in_err-index_of
returns-in_err-index_of g c =
    subst (λ r. MatchOption r
    ((j : ℕ) → j < length c.args.bounds.now
    → fits c.args.bounds.now (get_or c.args.bounds.now j 0) c.args.piece.now ≡ false)
    (λ place. (place < length c.args.bounds.now) × (get_or c.args.bounds.now place 0 ≡ c.args.piece.now.lo) ×
    (list_any (λ b. b == c.args.piece.now.hi) c.args.bounds.now ≡ true)))
    (sym c.from_residual.ensures)
    (λ j within. ends_nowhere c.args.bounds.now c.args.piece.now c.in_err-index_of.ensures
    (get_or c.args.bounds.now j 0))
