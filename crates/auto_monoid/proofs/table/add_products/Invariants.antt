use Rattle.std.proofs.Common.{◌≡◌, ◌++◌, take}
use Rattle.std.specs.Prelude.{map}
use Rattle.auto_monoid.specs.Functions.{composition, number_of}
use Rattle.auto_monoid.proofs.table.add_products.Given as goal

abbrev pub invariant-loop-right : goal.invariant-loop-right
invariant-loop-right l =
    l.cells.items
    ≡ l.initial.cells.items ++ map (λ g. number_of l.functions (composition l.left g)) (take l.right-index l.functions)
