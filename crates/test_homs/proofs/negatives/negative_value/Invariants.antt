use Rattle.std.proofs.Common.{◌≡◌, ℕ, ◌<◌, None}
use Rattle.gta_checked.specs.PlainRows.{plain_rows}
use Rattle.test_homs.specs.Negatives.{negative_at}
use Rattle.test_homs.proofs.negatives.negative_value.Given as goal

-- no row so far has a negative value
abbrev pub invariant-loop-row : goal.invariant-loop-row
invariant-loop-row l =
    (k : ℕ) → k < l.row → negative_at l.checked (plain_rows l.rows) l.test l.measure k ≡ None
