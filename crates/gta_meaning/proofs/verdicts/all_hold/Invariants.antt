use Rattle.std.proofs.Common.{◌≡◌, ℕ, ◌<◌, true, false, slice_index_or}
use Rattle.gta_meaning.proofs.verdicts.all_hold.Given as goal

-- the tests so far hold
abbrev pub invariant-loop-number : goal.invariant-loop-number
invariant-loop-number g l = (k : ℕ) → k < l.number → slice_index_or (g.O.Outcomes.outcomes l.outcomes) k false ≡ true
