use Rattle.std.proofs.Common.{◌≡◌}
use Rattle.std.specs.Prelude.{Some}
use Rattle.board_table.specs.Seen.{IsReady}
use Rattle.runtime_tests.proofs.shared_board.offer_rows.Given as goal

abbrev pub invariant-loop-i : goal.invariant-loop-i
invariant-loop-i l = IsReady l.board l.seat × (l.seat.plan ≡ Some (record { rows = 200 }))
