use Rattle.std.proofs.Common.{◌≡◌, ℕ, ◌<◌, false}
use Rattle.monoid_kit.specs.FirstBad.{is_not_associative}
use Rattle.monoid_kit.specs.TableOf.{plain_raw}
use Rattle.monoid_kit.proofs.checks.last_factor.Given as goal

-- the products with the last factors so far are associative
abbrev pub invariant-loop-c : goal.invariant-loop-c
invariant-loop-c l = (k : ℕ) → k < l.c → is_not_associative (plain_raw l.table) l.a l.b k ≡ false
