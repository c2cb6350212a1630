-- The plain component that a component is.
use Rattle.std.specs.Prelude.{List, map}
use Rattle.monoid_kit.specs.TableOf.{plain_table}
use Rattle.monoid_product.specs.declared.component.Component.{Component}
use Rattle.monoid_product.specs.declared.component.Component.TheVariants as components
use Rattle.monoid_product.specs.Component.{PlainComponent, Capped, Modular, Table}

abbrev pub plain_component : Component → PlainComponent
plain_component (components.Capped sum) = Capped sum.bound
plain_component (components.Modular sum) = Modular sum.modulus
plain_component (components.Table table) = Table (plain_table table)

abbrev pub plain_components : List Component → List PlainComponent
plain_components parts = map plain_component parts
