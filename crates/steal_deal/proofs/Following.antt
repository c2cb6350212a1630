-- What follows from the other parts of the Dealing rule: when a block is met, and how large a word gets.
use Rattle.std.proofs.Common.{◌≡◌, ℕ, ◌+◌, ◌-◌, ◌<◌, ◌≤◌, slice_index, sum_by, arith}
use Rattle.steal_deal.specs.declared.partition.Partition.{Partition}
use Rattle.steal_deal.specs.declared.view.View.{View}
use Rattle.steal_deal.specs.Partition.{block_begin, block_size, one_below}
use Rattle.steal_deal.specs.Views.{copies, times_taken, times_met}
use Rattle.steal_deal.specs.Rule.{BlockTable, IsAt}
use Rattle.steal_deal.proofs.Counting.{sum_by-le-sum_by, part-le-sum_by}

module _ (p : Partition) (t : BlockTable)
    (met_after : (b : ℕ) → b < p.workers → times_met t.views b ≡ slice_index t.words b - block_size p b) where
  -- a word is past its block's length by the number of hands that met the block, and each worker has one hand at most
  pub bounded : sum_by (λ (v : View). v.spare + 1) t.views ≡ p.workers
      → ((i : ℕ) (v : View) (b : ℕ) → IsAt t i v → copies b v.met ≤ 1)
      → (b : ℕ) → b < p.workers → slice_index t.words b ≤ block_size p b + p.workers
  bounded dealt met_once b in_range =
      let once = sum_by-le-sum_by (λ (v : View). copies b v.met) (λ v. v.spare + 1) t.views
      (λ i v at. let one = met_once i v b at in omega arith) in
      let past = met_after b in_range in
      omega arith

  -- a block that a hand met was drawn from more often than it has numbers
  pub met_at_end : ((b k : ℕ) → b < p.workers → k < block_size p b
      → times_taken t.views (block_begin p b + k) ≡ one_below (slice_index t.words b) k)
      → (i : ℕ) (v : View) (b k : ℕ) → IsAt t i v → b < p.workers → copies b v.met ≡ 1 → k < block_size p b
      → times_taken t.views (block_begin p b + k) ≡ 1
  met_at_end taken_once i v b k at in_range met of_block =
      let once = part-le-sum_by (λ (u : View). copies b u.met) t.views i v at in
      let past = met_after b in_range in
      let taken = taken_once b k in_range of_block in
      omega arith
