use Rattle.std.proofs.Common.{◌≡◌, take}
use Rattle.monoid_product.specs.Nested.{nested}
use Rattle.monoid_product.proofs.spans.nested.Given as goal

abbrev pub invariant-loop-span : goal.invariant-loop-span
invariant-loop-span l = l.spans.items ≡ nested l.later l.inner (take l.span-index l.outer)
