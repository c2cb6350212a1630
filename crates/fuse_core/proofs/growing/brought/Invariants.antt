use Rattle.std.proofs.Common.{◌≡◌, ℕ, ◌+◌, ◌*◌, ◌≤◌, List, length, map, take}
use Rattle.shape_gen.specs.declared.mark.Mark.{Mark}
use Rattle.fuse_core.specs.Wirings.{wires_on, all_shifts}
use Rattle.fuse_core.specs.Places.{AllFit, ShowEach, Brings}
use Rattle.fuse_core.proofs.growing.brought.Given as goal

abbrev pub invariant-loop-wires : goal.invariant-loop-wires
invariant-loop-wires g l =
    let shows = g.M.Maps.shows l.maps in
    record {
      count : length l.added.items ≡ l.wires-index;
      fit : AllFit (g.M.Maps.fits l.maps) l.added.items;
      shows : (lists added : ℕ → List (List Mark)) → Brings l.row lists added l.wiring → ShowEach shows lists l.later
          → ShowEach shows added l.added.items;
      cost : l.steps ≤ l.fn.steps + all_shifts (map wires_on (take l.wires-index l.wiring)) * g.M.Maps.size l.maps;
    }
