-- One digit more to a number, with what is past a cap counted as the cap.
use Rattle.std.specs.Prelude.{ℕ, ◌+◌, ◌-◌, ◌*◌, min}

abbrev pub capped_step : ℕ → ℕ → ℕ → ℕ
capped_step cap n b = min (n * 10 + (b - 48)) cap
