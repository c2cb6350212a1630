-- Whether the item at a place of a list passes a test.
use Rattle.std.specs.Prelude.{ℕ, Bool, false, List, slice_get, option_map, unwrap_or}

abbrev pub is_at : {A : Type 0} → (A → Bool) → List A → ℕ → Bool
is_at test xs place = unwrap_or (option_map test (slice_get xs place)) false
