-- The numbers below a count in consecutive ascending blocks, one for each worker.
use Rattle.std.specs.Prelude.{ℕ, zero, suc, ◌+◌, ◌-◌, ◌/◌, ◌%◌, min}
use Rattle.steal_deal.specs.declared.partition.Partition.{Partition}

-- 1 for a place below the bound, and 0 from there on
abbrev pub one_below : ℕ → ℕ → ℕ
one_below bound place = min 1 (bound - place)

-- how many numbers a block has: the first `count mod workers` blocks have one more than the others
abbrev pub block_size : Partition → ℕ → ℕ
block_size p b = p.count / p.workers + one_below (p.count % p.workers) b

-- the number at which a block begins: the first one at 0, each later one where the one before it ends
abbrev pub block_begin : Partition → ℕ → ℕ
block_begin p zero = 0
block_begin p (suc b) = block_begin p b + block_size p b
