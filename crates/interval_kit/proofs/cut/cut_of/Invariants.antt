use Rattle.std.proofs.Common.{◌≡◌, ◌*◌, map, min}
use Rattle.std.specs.List.{range_with_len}
use Rattle.interval_kit.proofs.cut.cut_of.Given as goal

abbrev pub invariant-loop-k : goal.invariant-loop-k
invariant-loop-k l = l.bounds.items ≡ map (λ k. min (k * l.leaf) l.rows) (range_with_len 0 l.k)
