use Rattle.std.proofs.Common.{◌≡◌, ◌*◌, ◌+◌, drop}
use Rattle.monoid_product.specs.ComponentOf.{plain_components}
use Rattle.monoid_product.specs.Product.{key_count, product_unit}
use Rattle.monoid_product.proofs.keys.unit_key.Given as goal

abbrev pub invariant-loop-part : goal.invariant-loop-part
invariant-loop-part l =
    l.key * key_count (plain_components (drop l.part-index l.parts))
    + product_unit (plain_components (drop l.part-index l.parts))
    ≡ product_unit (plain_components l.parts)
