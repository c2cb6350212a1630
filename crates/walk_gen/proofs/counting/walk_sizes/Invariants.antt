use Rattle.std.proofs.Common.{ℕ}
use Rattle.walk_gen.specs.Walks.{is_end, walks}
use Rattle.walk_gen.specs.Extents.{HaveExtents}
use Rattle.walk_gen.proofs.counting.walk_sizes.Given as goal

abbrev pub invariant-loop-row : goal.invariant-loop-row
invariant-loop-row l =
    (first : ℕ) → HaveExtents (walks l.walker.moves.items (is_end l.walker.ends.items) first l.row) l.extents
