use Rattle.std.proofs.Common.{◌≡◌, length}
use Rattle.fuse_core.specs.Places.{ShowNoRow}
use Rattle.fuse_core.proofs.growing.no_row.Given as goal

abbrev pub invariant-loop-wires : goal.invariant-loop-wires
invariant-loop-wires g l = record {
  count : length l.made.items ≡ l.wires-index;
  shows : ShowNoRow (g.M.Maps.shows l.maps) l.wiring l.made.items;
}
