use Rattle.std.proofs.Common.{◌≡◌, ℕ, List, length, take}
use Rattle.shape_gen.specs.declared.mark.Mark.{Mark}
use Rattle.walk_gen.specs.declared.walker.TheConstants.{STATE_LIMIT}
use Rattle.walk_gen.specs.Walks.{moved}
use Rattle.walk_gen.specs.Extents.{HaveExtents}
use Rattle.walk_gen.proofs.counting.one_row_more.Given as goal

abbrev pub invariant-loop-step : goal.invariant-loop-step
invariant-loop-step l = (length l.more ≡ STATE_LIMIT) × ((row : ℕ) (lists : ℕ → List (List Mark))
    → HaveExtents lists l.extents → HaveExtents (moved (take l.step-index l.moves) row lists) l.more)
