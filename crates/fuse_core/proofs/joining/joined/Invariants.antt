use Rattle.std.proofs.Common.{◌≡◌, ℕ, ◌+◌, ◌*◌, ◌≤◌, List, length, map, take}
use Rattle.shape_gen.specs.declared.mark.Mark.{Mark}
use Rattle.fuse_core.specs.Wirings.{wires_on, all_crossings}
use Rattle.fuse_core.specs.Places.{ShowEach, ShowJoined}
use Rattle.fuse_core.proofs.joining.joined.Given as goal

abbrev pub invariant-loop-wires : goal.invariant-loop-wires
invariant-loop-wires g l =
    let shows = g.M.Maps.shows l.maps in
    let pairs = g.M.Maps.size l.maps * g.M.Maps.size l.maps in
    record {
      count : length l.made.items ≡ l.wires-index;
      shows : (earlier later : ℕ → List (List Mark)) → ShowEach shows earlier l.left → ShowEach shows later l.right
          → ShowJoined shows earlier later l.wiring l.made.items;
      cost : l.steps ≤ l.fn.steps + all_crossings (map wires_on (take l.wires-index l.wiring)) * pairs;
    }
