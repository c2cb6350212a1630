-- The plain components of a product.
use Rattle.std.specs.Prelude.{List}
use Rattle.monoid_product.specs.declared.product.Product.{Product}
use Rattle.monoid_product.specs.Component.{PlainComponent}
use Rattle.monoid_product.specs.ComponentOf.{plain_components}

abbrev pub plain_parts : Product → List PlainComponent
plain_parts product = plain_components product.parts
