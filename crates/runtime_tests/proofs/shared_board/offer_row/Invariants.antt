use Rattle.std.proofs.Common.{◌≡◌, ◌+◌}
use Rattle.std.specs.Prelude.{Some}
use Rattle.board_table.specs.Seen.{IsReady}
use Rattle.runtime_tests.proofs.shared_board.offer_row.Given as goal

abbrev pub invariant-loop : goal.invariant-loop
invariant-loop l =
    IsReady l.board l.seat × (l.seat.plan ≡ Some (record { rows = 200 })) ×
    (l.piece ≡ record { lo = l.lo; hi = l.lo + 1; value = 1 })
