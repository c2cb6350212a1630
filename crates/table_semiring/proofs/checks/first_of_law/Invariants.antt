use Rattle.std.proofs.Common.{◌≡◌, ℕ, ◌<◌, not, None}
use Rattle.std.specs.List.{find, range_with_len}
use Rattle.monoid_kit.specs.Items.{pairs}
use Rattle.table_semiring.specs.FirstBreak.{choices, law_holds}
use Rattle.table_semiring.specs.TableOf.{plain_raw}
use Rattle.table_semiring.proofs.checks.first_of_law.Given as goal

-- the law holds with the first elements so far
abbrev pub invariant-loop-a : goal.invariant-loop-a
invariant-loop-a l =
    (k : ℕ) → k < l.a → find (λ p. not (law_holds (plain_raw l.raw) l.law k p.0 p.1))
    (pairs (range_with_len 0 (choices (plain_raw l.raw) l.law 1))
    (range_with_len 0 (choices (plain_raw l.raw) l.law 2))) ≡ None
