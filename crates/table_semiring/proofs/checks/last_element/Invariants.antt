use Rattle.std.proofs.Common.{◌≡◌, ℕ, ◌<◌, not, false}
use Rattle.table_semiring.specs.FirstBreak.{law_holds}
use Rattle.table_semiring.specs.TableOf.{plain_raw}
use Rattle.table_semiring.proofs.checks.last_element.Given as goal

-- the law holds with the last elements so far
abbrev pub invariant-loop-c : goal.invariant-loop-c
invariant-loop-c l = (k : ℕ) → k < l.c → not (law_holds (plain_raw l.raw) l.law l.a l.b k) ≡ false
