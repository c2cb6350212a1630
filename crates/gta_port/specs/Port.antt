-- What the clauses on sources and sinks say: a count that rose, and bytes that went over in part.
-- Known bytes are an `Option`; where it is `None`, nothing is claimed.
use Rattle.std.specs.Prelude.{ℕ, ◌≡◌, ◌+◌, min, List, length, take, Option}
use Rattle.std.specs.Io.KnownBytes.{Appends, Consumes}

-- the last value of a count of faults, at which it stays
abbrev pub last_count : ℕ
last_count = 18446744073709551615

-- the count is one greater than it was, or stands at its last value: one call failed
abbrev pub Rose : ℕ → ℕ → Type 0
Rose old new = new ≡ min (old + 1) last_count

-- known bytes grow by some front of the text
abbrev pub GainsFront : Option (List ℕ) → Option (List ℕ) → List ℕ → Type 0
GainsFront old new text = (n : ℕ) × Appends old new (take n text)

-- known bytes lose some at their front, as many as fits says
abbrev pub ConsumesSome : Option (List ℕ) → Option (List ℕ) → (ℕ → Type 0) → Type 0
ConsumesSome old new fits = (bytes : List ℕ) × Consumes old new bytes × fits (length bytes)
