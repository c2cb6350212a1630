-- Lists of bounds that cut the rows below `rows` into leaves.
use Rattle.std.specs.Prelude.{◌≡◌, ℕ, ◌+◌, ◌-◌, ◌*◌, min, List, length, map, Some, slice_index, slice_get}
use Rattle.std.specs.Int.{div_ceil}
use Rattle.std.specs.List.{range_with_len}
use Rattle.std.specs.List.Sorted.{IsStrictlyIncreasing}

-- the bound at the end
abbrev pub last_bound : List ℕ → ℕ
last_bound bounds = slice_index bounds (length bounds - 1)

-- bounds that ascend strictly, from 0 to the number of rows
pub record IsCut (rows : ℕ) (bounds : List ℕ) : Type 0 where
  pub starts : slice_get bounds 0 ≡ Some 0
  pub ends : slice_get bounds (length bounds - 1) ≡ Some rows
  pub rises : IsStrictlyIncreasing bounds

-- a bound at every leaf-th row, and one at the end of the last row
abbrev pub even_cut : ℕ → ℕ → List ℕ
even_cut rows leaf = map (λ k. min (k * leaf) rows) (range_with_len 0 (div_ceil rows leaf + 1))
