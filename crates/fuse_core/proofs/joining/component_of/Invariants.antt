use Rattle.std.proofs.Common.{ℕ, ◌+◌, ◌*◌, ◌≤◌, List, take}
use Rattle.std.specs.List.{flat_map}
use Rattle.shape_gen.specs.declared.mark.Mark.{Mark}
use Rattle.fuse_core.specs.Wirings.{source_lists, crossings}
use Rattle.fuse_core.specs.Places.{ShowEach}
use Rattle.fuse_core.proofs.joining.component_of.Given as goal

abbrev pub invariant-loop-source : goal.invariant-loop-source
invariant-loop-source g l =
    let shows = g.M.Maps.shows l.maps in
    let pairs = g.M.Maps.size l.maps * g.M.Maps.size l.maps in
    record {
      fits : g.M.Maps.fits l.maps l.sum;
      shows : (earlier later : ℕ → List (List Mark)) → ShowEach shows earlier l.left → ShowEach shows later l.right
          → shows (flat_map (source_lists earlier later) (take l.source-index l.sources)) l.sum;
      cost : l.steps ≤ l.fn.steps + crossings (take l.source-index l.sources) * pairs;
    }
