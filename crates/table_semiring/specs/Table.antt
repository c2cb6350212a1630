-- Tables of sums and products: for each pair of elements a cell with their sum, and one with their product, row by row.
use Rattle.std.specs.Prelude.{◌≡◌, ℕ, ◌+◌, ◌*◌, ◌<◌, ◌≤◌, ℤ, pos, negsuc, List, All, length, slice_index_or}
use Rattle.std.specs.Prelude.{nat_lt, if◌then◌else◌}
use Rattle.semiring_kit.specs.Semiring.{SemiringOn, IsSemiring}
use Rattle.table_semiring.specs.declared.table.TheConstants.{GREATEST_SIZE}

pub record PlainRaw : Type 0 where
  pub size : ℕ
  pub zero : ℕ
  pub one : ℕ
  pub plus : List ℕ
  pub mult : List ℕ

-- the cell of row a and column b, in a table of that many rows and columns
abbrev pub cell : ℕ → List ℕ → ℕ → ℕ → ℕ
cell size cells a b = slice_index_or cells (a * size + b) 0

abbrev pub sum_in : PlainRaw → ℕ → ℕ → ℕ
sum_in t a b = cell t.size t.plus a b

abbrev pub product_in : PlainRaw → ℕ → ℕ → ℕ
product_in t a b = cell t.size t.mult a b

-- there are 1 to 16 elements, in each table a cell for each pair of them, and zero, one and each cell are elements
pub record IsRaw (t : PlainRaw) : Type 0 where
  pub some : 1 ≤ t.size
  pub few : t.size ≤ GREATEST_SIZE
  pub zero_is_element : t.zero < t.size
  pub one_is_element : t.one < t.size
  pub plus_is_whole : length t.plus ≡ t.size * t.size
  pub mult_is_whole : length t.mult ≡ t.size * t.size
  pub sums_are_elements : All (λ sum. sum < t.size) t.plus
  pub products_are_elements : All (λ product. product < t.size) t.mult

-- the operations that the tables give. The elements are sound, and keep no weight
abbrev pub semiring_of : PlainRaw → SemiringOn ℕ
semiring_of t = record {
  zero = t.zero;
  one = t.one;
  add = sum_in t;
  mul = product_in t;
  is_sound = λ a. a < t.size;
  reach = λ a. 0;
}

-- tables in which the laws of a semiring hold
pub record IsLawfulTable (t : PlainRaw) : Type 0 where
  pub table : IsRaw t
  pub semiring : IsSemiring (semiring_of t)

-- the element that a weight is, or zero where it is none
abbrev pub element_of : PlainRaw → ℤ → ℕ
element_of t (pos n) = if nat_lt n t.size then n else t.zero
element_of t (negsuc n) = t.zero
