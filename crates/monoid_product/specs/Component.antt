-- The monoids that a product is made of.
use Rattle.std.specs.Prelude.{ℕ, ◌+◌}
use Rattle.monoid_kit.specs.CappedSum.{capped_sum}
use Rattle.monoid_kit.specs.Modular.{modular_sum}
use Rattle.monoid_kit.specs.Monoid.{IsMonoid}
use Rattle.monoid_kit.specs.Table.{PlainTable, table_mul}

-- sums that stop one past a bound; remainders by a modulus; a table
pub data PlainComponent : Type 0 where
  Capped : ℕ → PlainComponent
  Modular : ℕ → PlainComponent
  Table : PlainTable → PlainComponent

abbrev pub component_size : PlainComponent → ℕ
component_size (Capped bound) = bound + 2
component_size (Modular modulus) = modulus
component_size (Table table) = table.size

abbrev pub component_unit : PlainComponent → ℕ
component_unit (Capped bound) = 0
component_unit (Modular modulus) = 0
component_unit (Table table) = table.unit

abbrev pub component_mul : PlainComponent → ℕ → ℕ → ℕ
component_mul (Capped bound) = capped_sum bound
component_mul (Modular modulus) = modular_sum modulus
component_mul (Table table) = table_mul table

-- the component is a monoid
abbrev pub IsMonoidComponent : PlainComponent → Type 0
IsMonoidComponent c = IsMonoid (component_size c) (component_unit c) (component_mul c)
