use Rattle.std.proofs.Common.{◌≡◌, take}
use Rattle.std.specs.List.{flat_map}
use Rattle.auto_monoid.specs.MonoidOf.{products}
use Rattle.auto_monoid.proofs.table.table_of.Given as goal

abbrev pub invariant-loop-left : goal.invariant-loop-left
invariant-loop-left l = l.cells.items ≡ flat_map (products l.functions) (take l.left-index l.functions)
