-- Lines of a text, each ended by LF.
use Rattle.std.specs.Prelude.{ℕ, Bool, not, ◌==◌}

-- any byte but LF
abbrev pub is_inside : ℕ → Bool
is_inside b = not (b == 10)
