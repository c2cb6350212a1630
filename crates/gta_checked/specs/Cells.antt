-- The rows of a table as a list of cells, and which numbers a cell may have.
use Rattle.std.specs.Prelude.{ℕ, ℤ, Bool, List, nat_abs, nat_le}
use Rattle.gta_text.specs.declared.numbers.TheConstants.{NUMBER_BOUND}

abbrev pub is_cell : ℤ → Bool
is_cell cell = nat_le (nat_abs cell) NUMBER_BOUND
