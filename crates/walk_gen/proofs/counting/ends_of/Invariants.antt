use Rattle.std.proofs.Common.{◌≡◌, length, take}
use Rattle.walk_gen.specs.declared.walker.TheConstants.{STATE_LIMIT}
use Rattle.walk_gen.specs.Walks.{at_end, is_end}
use Rattle.walk_gen.specs.Extents.{HaveExtents}
use Rattle.walk_gen.proofs.counting.ends_of.Given as goal

abbrev pub invariant-loop-state : goal.invariant-loop-state
invariant-loop-state l =
    (length l.extents ≡ STATE_LIMIT) × HaveExtents (at_end (is_end (take l.state l.ends))) l.extents
