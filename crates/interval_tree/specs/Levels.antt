-- How many levels a tree has.
use Rattle.std.specs.Prelude.{ℕ, zero, suc, ◌*◌, ◌^◌, nat_le, if◌then◌else◌}

-- the greatest number h of at most `most` with 2 ^ h <= 2 * rows
abbrev pub levels_to : ℕ → ℕ → ℕ
levels_to zero rows = 0
levels_to (suc h) rows = if nat_le (2 ^ suc h) (2 * rows) then suc h else levels_to h rows

-- the greatest number h with 2 ^ h <= 2 * rows, for at least one row
abbrev pub levels : ℕ → ℕ
levels rows = levels_to rows rows
