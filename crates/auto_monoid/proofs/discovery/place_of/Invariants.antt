use Rattle.std.proofs.Common.{◌≡◌, ℕ, ◌<◌, [], false, get_or}
use Rattle.auto_monoid.specs.Functions.{same}
use Rattle.auto_monoid.proofs.discovery.place_of.Given as goal

-- none of the functions so far is the same
abbrev pub invariant-loop-place : goal.invariant-loop-place
invariant-loop-place l = (k : ℕ) → k < l.place → same l.function (get_or l.functions k []) ≡ false
