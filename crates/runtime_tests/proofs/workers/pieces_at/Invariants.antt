use Rattle.std.proofs.Common.{◌≡◌, ◌-◌}
use Rattle.std.specs.List.{All}
use Rattle.worker_pool.specs.Walk.{IsGood}
use Rattle.runtime_tests.proofs.workers.pieces_at.Given as goal

abbrev pub invariant-loop-lo : goal.invariant-loop-lo
invariant-loop-lo l = All (IsGood 8 (λ lo hi value. value ≡ hi - lo)) l.pieces.items
