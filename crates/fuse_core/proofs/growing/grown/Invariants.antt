use Rattle.std.proofs.Common.{ℕ, ◌+◌, ◌*◌, ◌≤◌, List, take}
use Rattle.std.specs.List.{flat_map}
use Rattle.shape_gen.specs.declared.mark.Mark.{Mark}
use Rattle.fuse_core.specs.Wirings.{growth_lists, shifts}
use Rattle.fuse_core.specs.Places.{ShowEach}
use Rattle.fuse_core.proofs.growing.grown.Given as goal

abbrev pub invariant-loop-growth : goal.invariant-loop-growth
invariant-loop-growth g l =
    let shows = g.M.Maps.shows l.maps in
    record {
      fits : g.M.Maps.fits l.maps l.sum;
      shows : (lists brought : ℕ → List (List Mark)) → ShowEach shows lists l.later → ShowEach shows brought l.added
          → shows (flat_map (growth_lists l.row lists brought) (take (l.growth-index + 1) l.growths)) l.sum;
      cost : l.steps ≤ l.fn.steps + shifts (take (l.growth-index + 1) l.growths) * g.M.Maps.size l.maps;
    }
