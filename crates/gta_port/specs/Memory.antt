-- What a source and a sink in memory hold, and how they count their calls.
use Rattle.std.specs.Prelude.{ℕ, ◌+◌, List, min, Contains}
use Rattle.gta_port.specs.Port.{last_count}

-- At most chunk bytes go over in a call. The calls whose numbers, from 1, are in fails are faults.
-- So many calls were made, and so many of them were faults, each up to the last count.
pub record Calls : Type 0 where
  pub chunk : ℕ
  pub fails : List ℕ
  pub made : ℕ
  pub faults : ℕ

-- a source in memory: the bytes not yet read
pub record MemoryReads : Type 0 where
  pub left : List ℕ
  pub calls : Calls

-- a sink in memory: the bytes taken, and how many it can hold
pub record MemoryWrites : Type 0 where
  pub gone : List ℕ
  pub room : ℕ
  pub calls : Calls

-- one more, up to the last count
abbrev pub next_count : ℕ → ℕ
next_count n = min (n + 1) last_count

-- the next call is listed as a fault
abbrev pub FailsNext : Calls → Type 0
FailsNext calls = Contains calls.fails (next_count calls.made)

-- before the first call
abbrev pub no_calls : ℕ → List ℕ → Calls
no_calls chunk fails = record { chunk = chunk; fails = fails; made = 0; faults = 0 }

-- after a call that was no fault
abbrev pub after_call : Calls → Calls
after_call calls = record calls { made = next_count calls.made }

-- after a call that was one
abbrev pub after_fault : Calls → Calls
after_fault calls = record calls { made = next_count calls.made; faults = next_count calls.faults }
