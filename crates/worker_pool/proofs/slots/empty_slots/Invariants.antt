use Rattle.std.proofs.Common.{◌≡◌, vec_len}
use Rattle.worker_pool.specs.Slots.{AreEmpty}
use Rattle.worker_pool.proofs.slots.empty_slots.Given as goal

abbrev pub invariant-loop : goal.invariant-loop
invariant-loop g l = record { len : vec_len l.slots ≡ l.counter; empty : AreEmpty l.slots.items }
