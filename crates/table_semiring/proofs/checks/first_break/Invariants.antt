use Rattle.std.proofs.Common.{◌≡◌, ℕ, ◌<◌, None}
use Rattle.std.specs.List.{find}
use Rattle.table_semiring.specs.FirstBreak.{is_broken, places}
use Rattle.table_semiring.specs.TableOf.{plain_raw}
use Rattle.table_semiring.proofs.checks.first_break.Given as goal

-- the laws so far break nowhere
abbrev pub invariant-loop-law : goal.invariant-loop-law
invariant-loop-law l =
    (k : ℕ) → k < l.law → find (is_broken (plain_raw l.raw)) (places (plain_raw l.raw) k) ≡ None
