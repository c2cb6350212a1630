use Rattle.std.proofs.Common.{ℕ, ◌<◌, pos, ◌≤ℤ◌}
use Rattle.gta_checked.specs.PlainRows.{plain_rows}
use Rattle.gta_meaning.specs.Values.{value}
use Rattle.test_homs.proofs.negatives.negative_at.Given as goal

-- no value so far is negative
abbrev pub invariant-loop-label : goal.invariant-loop-label
invariant-loop-label l =
    (k : ℕ) → k < l.label → pos 0 ≤ℤ value l.checked (plain_rows l.rows) l.measure l.row k
