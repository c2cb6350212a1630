use Rattle.std.proofs.Common.{◌≡◌, ℕ, ◌<◌, None, true, false, [], ◌∷◌}
use Rattle.std.specs.List.{find}
use Rattle.monoid_kit.specs.FirstBad.{unit_fails}
use Rattle.monoid_kit.specs.TableOf.{plain_raw}
use Rattle.monoid_kit.proofs.checks.unit_failure.Given as goal

-- the unit changes none of the elements so far
abbrev pub invariant-loop-x : goal.invariant-loop-x
invariant-loop-x l = (k : ℕ) → k < l.x → find (unit_fails (plain_raw l.table) k) (true ∷ false ∷ []) ≡ None
