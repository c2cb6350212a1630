use Rattle.std.proofs.Common.{◌≡◌, ℕ, ◌<◌, None}
use Rattle.std.specs.List.{find}
use Rattle.monoid_kit.specs.FirstBad.{elements, is_not_associative}
use Rattle.monoid_kit.specs.Items.{pairs}
use Rattle.monoid_kit.specs.TableOf.{plain_raw}
use Rattle.monoid_kit.proofs.checks.triple.Given as goal

-- the products that begin with the elements so far are associative
abbrev pub invariant-loop-a : goal.invariant-loop-a
invariant-loop-a l =
    (k : ℕ) → k < l.a → find (λ p. is_not_associative (plain_raw l.table) k p.0 p.1)
    (pairs (elements (plain_raw l.table)) (elements (plain_raw l.table))) ≡ None
