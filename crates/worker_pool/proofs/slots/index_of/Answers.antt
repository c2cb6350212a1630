use Rattle.std.proofs.Common.{◌≡◌, ◌≢◌, ℕ, ◌<◌, length, get_or, MatchOption, subst, sym}
use Rattle.worker_pool.proofs.Bounds.{index_found}
use Rattle.worker_pool.proofs.slots.index_of.Goals as goal

pub returns : goal.returns
returns c =
    subst (λ r. MatchOption r ((j : ℕ) → j < length c.args.bounds.now → get_or c.args.bounds.now j 0 ≢ c.args.bound)
    (λ j. (j < length c.args.bounds.now) × (get_or c.args.bounds.now j 0 ≡ c.args.bound)))
    (sym c.ok.ensures.value)
    (index_found c.args.bounds.now c.requires.rises c.args.bound c.binary_search.result
    c.binary_search.ensures.position)
