use Rattle.std.proofs.Common.{◌≡◌, ◌*◌, ◌+◌, drop}
use Rattle.monoid_product.specs.ComponentOf.{plain_components}
use Rattle.monoid_product.specs.Product as keys
use Rattle.monoid_product.proofs.keys.key_of.Given as goal

abbrev pub invariant-loop-k : goal.invariant-loop-k
invariant-loop-k l =
    l.key * keys.key_count (plain_components (drop l.k l.parts))
    + keys.key_of (plain_components (drop l.k l.parts)) (drop l.k l.digits)
    ≡ keys.key_of (plain_components l.parts) l.digits
