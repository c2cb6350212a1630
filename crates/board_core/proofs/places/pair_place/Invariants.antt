use Rattle.std.proofs.Common.{ℕ, suc, ◌<◌}
use Rattle.board_core.proofs.PlaceLemmas.{AdjoinAt}
use Rattle.board_core.proofs.places.pair_place.Given as goal

abbrev pub invariant-loop-at : goal.invariant-loop-at
invariant-loop-at g l = (k : ℕ) → suc k < l.at → ¬ AdjoinAt l.held.items k
