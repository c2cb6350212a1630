use Rattle.std.proofs.Common.{◌≡◌, ℕ, List, length, drop}
use Rattle.shape_gen.specs.declared.mark.Mark.{Mark}
use Rattle.fuse_core.specs.Places.{ShowEach, ShowGrown}
use Rattle.fuse_core.proofs.growing.kept_and_added.Given as goal

abbrev pub invariant-loop-wires : goal.invariant-loop-wires
invariant-loop-wires g l =
    let shows = g.M.Maps.shows l.maps in
    record {
      later : l.later.items ≡ drop l.wires-index l.fn.later.items;
      added : l.added.items ≡ drop l.wires-index l.fn.added.items;
      count : length l.made.items ≡ l.wires-index;
      shows : (lists brought : ℕ → List (List Mark)) → ShowEach shows lists l.fn.later.items
          → ShowEach shows brought l.fn.added.items
          → ShowGrown shows lists brought l.wiring l.made.items;
    }
