use Rattle.std.proofs.Common.{◌≡◌, ℕ, ◌<◌, None}
use Rattle.std.specs.List.{find}
use Rattle.monoid_kit.specs.FirstBad.{elements, is_not_associative}
use Rattle.monoid_kit.specs.TableOf.{plain_raw}
use Rattle.monoid_kit.proofs.checks.further_factors.Given as goal

-- the products with the second factors so far are associative
abbrev pub invariant-loop-b : goal.invariant-loop-b
invariant-loop-b l =
    (k : ℕ) → k < l.b → find (is_not_associative (plain_raw l.table) l.a k) (elements (plain_raw l.table)) ≡ None
