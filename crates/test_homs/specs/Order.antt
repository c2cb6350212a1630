-- The order of tests as parts of a product.
use Rattle.std.specs.Prelude.{ℕ}
use Rattle.monoid_product.specs.Component.{PlainComponent, Capped, Modular, Table, component_size}

-- a table comes first; sums and remainders come by how many elements they have, the largest last
abbrev pub rank : PlainComponent → ℕ
rank (Capped bound) = component_size (Capped bound)
rank (Modular modulus) = component_size (Modular modulus)
rank (Table table) = 0
