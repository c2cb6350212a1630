-- Each component is a monoid, of at most 8,192 elements.
use Rattle.std.specs.Prelude.{◌≤◌}
use Rattle.std.proofs.Common.{arith}
use Rattle.monoid_kit.specs.CappedSumLaws.{capped_sum-IsMonoid}
use Rattle.monoid_kit.specs.ModularLaws.{modular_sum-IsMonoid}
use Rattle.monoid_product.specs.declared.component.Component.{Component}
use Rattle.monoid_product.specs.declared.component.Component.TheVariants.{Capped, Modular, Table}
use Rattle.monoid_product.specs.Component.{IsMonoidComponent, component_size}
use Rattle.monoid_product.specs.ComponentOf.{plain_component}

pub component-IsMonoid : (c : Component) → IsMonoidComponent (plain_component c)
component-IsMonoid (Capped sum) = capped_sum-IsMonoid sum.bound
component-IsMonoid (Modular sum) = modular_sum-IsMonoid sum.modulus sum.some
component-IsMonoid (Table table) = table.lawful.monoid

pub component_size-within : (c : Component) → component_size (plain_component c) ≤ 8192
component_size-within (Capped sum) = (let small = sum.small in omega arith)
component_size-within (Modular sum) = (let small = sum.small in omega arith)
component_size-within (Table table) = (let few = table.lawful.table.few in omega arith)
