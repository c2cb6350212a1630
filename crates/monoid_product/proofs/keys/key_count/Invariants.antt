use Rattle.std.proofs.Common.{◌≡◌, ◌*◌, drop}
use Rattle.monoid_product.specs.ComponentOf.{plain_components}
use Rattle.monoid_product.specs.Product.{key_count}
use Rattle.monoid_product.proofs.keys.key_count.Given as goal

abbrev pub invariant-loop-part : goal.invariant-loop-part
invariant-loop-part l =
    l.keys * key_count (plain_components (drop l.part-index l.parts)) ≡ key_count (plain_components l.parts)
