-- How many entries the pieces of an aggregate count.
use Rattle.std.specs.Prelude.{ℕ, Some, None}
use Rattle.std.specs.Int.{div_ceil}
use Rattle.gta_checked.specs.declared.resolved.Goal.{Goal}
use Rattle.gta_checked.specs.declared.resolved.Goal.TheVariants.{Count, Any, Max, Min, Best, Ranked}

-- how many candidates a key may keep: as many as the best list asks for
abbrev pub kept_a_key : Goal → ℕ
kept_a_key Count = 1
kept_a_key Any = 1
kept_a_key (Max measure) = 1
kept_a_key (Min measure) = 1
kept_a_key (Best k greatest measure) = k
kept_a_key (Ranked None keys) = 1
kept_a_key (Ranked (Some k) keys) = k

-- how many pieces count: those of the leaves into which the rows are cut, and for the best list those of the rows
abbrev pub pieces_by : Goal → ℕ → ℕ → ℕ
pieces_by Count leaf rows = div_ceil rows leaf
pieces_by Any leaf rows = div_ceil rows leaf
pieces_by (Max measure) leaf rows = div_ceil rows leaf
pieces_by (Min measure) leaf rows = div_ceil rows leaf
pieces_by (Best k greatest measure) leaf rows = rows
pieces_by (Ranked None keys) leaf rows = div_ceil rows leaf
pieces_by (Ranked (Some k) keys) leaf rows = rows
