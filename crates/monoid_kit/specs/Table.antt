-- Tables of products: for each pair of elements a cell with their product, row by row.
use Rattle.std.specs.Prelude.{◌≡◌, ℕ, ◌+◌, ◌*◌, ◌<◌, ◌≤◌, List, All, length, slice_index_or}
use Rattle.monoid_kit.specs.declared.table.TheConstants.{GREATEST_TABLE}
use Rattle.monoid_kit.specs.Monoid.{IsMonoid}

pub record PlainTable : Type 0 where
  pub size : ℕ
  pub unit : ℕ
  pub cells : List ℕ

-- the product of a and b: the cell of row a and column b
abbrev pub table_mul : PlainTable → ℕ → ℕ → ℕ
table_mul t a b = slice_index_or t.cells (a * t.size + b) 0

-- there are 1 to 64 elements, a cell for each pair of them, and the unit and each cell are elements
pub record IsTable (t : PlainTable) : Type 0 where
  pub some : 1 ≤ t.size
  pub few : t.size ≤ GREATEST_TABLE
  pub whole : length t.cells ≡ t.size * t.size
  pub unit_is_element : t.unit < t.size
  pub cells_are_elements : All (λ cell. cell < t.size) t.cells

-- a table in which the laws of a monoid hold
pub record IsLawfulTable (t : PlainTable) : Type 0 where
  pub table : IsTable t
  pub monoid : IsMonoid t.size t.unit (table_mul t)
