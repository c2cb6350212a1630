-- The Dealing rule: what holds of the blocks' table between any two steps, whoever makes them.
use Rattle.std.specs.Prelude.{ℕ, ◌≡◌, ◌≢◌, ◌⊎◌, ◌+◌, ◌-◌, ◌<◌, ◌≤◌}
use Rattle.std.specs.Prelude.{length, slice_index, sum_by}
use mathlib.Core.Option.{some}
use lib.ListN.{get_elem?}
use Rattle.atomic_table.specs.Table.{State}
use Rattle.steal_deal.specs.declared.partition.Partition.{Partition}
use Rattle.steal_deal.specs.declared.view.View.{View}
use Rattle.steal_deal.specs.Partition.{block_size, block_begin, one_below}
use Rattle.steal_deal.specs.Views.{copies, times_taken, times_met}

-- the words count the draws made on each block; there is no slot
abbrev pub BlockTable : Type 0
BlockTable = State (Unit {0}) View

-- the hand at this place has this view
abbrev pub IsAt : BlockTable → ℕ → View → Type 0
IsAt t i v = get_elem? t.views i ≡ some v

-- the worker numbers of two hands, their own and those that they may still give, are different
abbrev pub AreApart : View → View → Type 0
AreApart v w = (v.number + v.spare < w.number) ⊎ (w.number + w.spare < v.number)

pub record DealingRule (p : Partition) (t : BlockTable) : Type 0 where
  -- each block has a word, and all hands know the same blocks
  pub words : length t.words ≡ p.workers
  pub partition : (i : ℕ) (v : View) → IsAt t i v → v.partition ≡ p
  -- each worker number is a hand's, or is still to be given by one hand, and by no other
  pub numbers_below : (i : ℕ) (v : View) → IsAt t i v → v.number + v.spare < p.workers
  pub numbers_apart : (i j : ℕ) (v w : View) → i ≢ j → IsAt t i v → IsAt t j w → AreApart v w
  pub numbers_dealt : sum_by (λ v. v.spare + 1) t.views ≡ p.workers
  -- as many numbers of a block as draws were made on it are handed out, from its first one on,
  -- each once, and nothing else is
  pub taken_once : (b k : ℕ) → b < p.workers → k < block_size p b
      → times_taken t.views (block_begin p b + k) ≡ one_below (slice_index t.words b) k
  pub taken_below : (y : ℕ) → p.count ≤ y → times_taken t.views y ≡ 0
  -- a hand meets a block once at most; as many met it as draws were made past its last number
  pub met_once : (i : ℕ) (v : View) (b : ℕ) → IsAt t i v → copies b v.met ≤ 1
  pub met_after : (b : ℕ) → b < p.workers
      → times_met t.views b ≡ slice_index t.words b - block_size p b
  -- so a block is met only after all its numbers were handed out, and no word wraps
  pub met_last : (i : ℕ) (v : View) (b k : ℕ) → IsAt t i v → b < p.workers → copies b v.met ≡ 1
      → k < block_size p b → times_taken t.views (block_begin p b + k) ≡ 1
  pub draws_bounded : (b : ℕ) → b < p.workers
      → slice_index t.words b ≤ block_size p b + p.workers
