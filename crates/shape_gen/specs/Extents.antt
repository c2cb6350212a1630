-- How many marks candidates have, and the numbers of runs.
use Rattle.std.specs.Prelude.{ℕ, zero, suc, ◌+◌, List, length}
use Rattle.std.specs.List.{sum_by}
use Rattle.shape_gen.specs.declared.mark.Mark.{Mark}

-- the marks of all candidates together
abbrev pub mark_count : List (List Mark) → ℕ
mark_count candidates = sum_by length candidates

-- 1 + 2 + .. + n, the number of nonempty runs of n rows
abbrev pub triangle : ℕ → ℕ
triangle zero = 0
triangle (suc n) = triangle n + suc n

-- the first n triangles together, the number of the marks of these runs
abbrev pub pyramid : ℕ → ℕ
pyramid zero = 0
pyramid (suc n) = pyramid n + triangle (suc n)
