use Rattle.std.proofs.Common.{◌≡◌, ℕ, ◌<◌, true}
use Rattle.gta_meaning.proofs.KeptBy.{is_met}
use Rattle.gta_meaning.proofs.verdicts.unnamed_hold.Given as goal

-- the tests so far have names or hold
abbrev pub invariant-loop-number : goal.invariant-loop-number
invariant-loop-number g l = (k : ℕ) → k < l.number → is_met l.named (g.O.Outcomes.outcomes l.outcomes) k ≡ true
