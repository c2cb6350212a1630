use Rattle.std.proofs.Common.{◌≡◌, length}
use Rattle.key_map.specs.Rows.{slots_from}
use Rattle.key_map.proofs.row.slots_of.Given as goal

abbrev pub invariant-loop-place : goal.invariant-loop-place
invariant-loop-place g l = record {
  kept : l.slots.items ≡ slots_from 0 l.yielded;
  count : l.key ≡ length l.yielded;
}
