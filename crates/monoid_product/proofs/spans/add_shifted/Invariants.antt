use Rattle.std.proofs.Common.{◌≡◌, ◌++◌, take, map}
use Rattle.monoid_product.specs.Nested.{shifted}
use Rattle.monoid_product.proofs.spans.add_shifted.Given as goal

abbrev pub invariant-loop-span : goal.invariant-loop-span
invariant-loop-span l = l.spans.items ≡ l.initial.spans.items ++ map (shifted l.from l.to) (take l.span-index l.inner)
