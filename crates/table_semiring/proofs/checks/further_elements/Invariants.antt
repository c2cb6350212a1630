use Rattle.std.proofs.Common.{◌≡◌, ℕ, ◌<◌, not, None}
use Rattle.std.specs.List.{find, range_with_len}
use Rattle.table_semiring.specs.FirstBreak.{choices, law_holds}
use Rattle.table_semiring.specs.TableOf.{plain_raw}
use Rattle.table_semiring.proofs.checks.further_elements.Given as goal

-- the law holds with the second elements so far
abbrev pub invariant-loop-b : goal.invariant-loop-b
invariant-loop-b l =
    (k : ℕ) → k < l.b → find (λ c. not (law_holds (plain_raw l.raw) l.law l.a k c))
    (range_with_len 0 (choices (plain_raw l.raw) l.law 2)) ≡ None
