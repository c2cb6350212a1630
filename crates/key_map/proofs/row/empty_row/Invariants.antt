use Rattle.std.proofs.Common.{◌≡◌, None, replicate}
use Rattle.key_map.proofs.row.empty_row.Given as goal

abbrev pub invariant-loop : goal.invariant-loop
invariant-loop g l = l.row.items ≡ replicate l.counter None
