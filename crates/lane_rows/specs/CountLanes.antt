-- Counts as lanes: each stands for itself, up to the greatest count.
use Rattle.std.specs.Prelude.{ℕ, ◌+◌, ◌*◌, List, min}
use Rattle.std.specs.List.{sum}
use Rattle.std.specs.Simd.Lanes.{zip2}
use Rattle.semiring_kit.specs.Count.{count_cap}

-- a count raised by a product, or the cap
abbrev pub raised_count : ℕ → ℕ → ℕ → ℕ
raised_count by a b = min (a + by * b) count_cap

-- place by place
abbrev pub lifted_count : ℕ → List ℕ → List ℕ → List ℕ
lifted_count by into from = zip2 (raised_count by) into from

-- the sum, or the cap
abbrev pub total_count : List ℕ → ℕ
total_count counts = min (sum counts) count_cap
