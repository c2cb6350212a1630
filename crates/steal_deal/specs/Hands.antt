-- Hands and blocks as contracts see them.
use Rattle.std.specs.Prelude.{ℕ, ◌≡◌, ◌-◌, ◌^◌, ◌<◌, ◌≤◌}
use Rattle.std.specs.Prelude.{Bool, false, cond, List, map, get_or}
use Rattle.std.specs.List.{range_with_len}
use Rattle.atomic_table.specs.Seated.{TableId}
use Rattle.steal_deal.specs.declared.partition.Partition.{Partition}
use Rattle.steal_deal.specs.declared.partition.TheConstants.{MOST_WORKERS}
use Rattle.steal_deal.specs.declared.view.View.{View}
use Rattle.steal_deal.specs.Views.{fresh, copies}

-- the blocks: which table they are, and what fixes them
pub record BlocksSeen : Type 0 where
  pub table : TableId
  pub partition : Partition

-- a hand: of which table it is, and what it knows
pub record HandSeen : Type 0 where
  pub table : TableId
  pub view : View

-- the hand was dealt with these blocks
pub record IsDealtWith (blocks : BlocksSeen) (hand : HandSeen) : Type 0 where
  pub table : hand.table ≡ blocks.table
  pub partition : hand.view.partition ≡ blocks.partition

-- the hand of a worker as it is dealt: both of its lists are empty
abbrev pub new_hand : BlocksSeen → ℕ → HandSeen
new_hand blocks number =
    record { table = blocks.table; view = fresh blocks.partition number 0 }

-- the same while it is to give all the later numbers
abbrev pub parent_hand : BlocksSeen → ℕ → HandSeen
parent_hand blocks number =
    let spare = blocks.partition.workers - 1 - number in
    record { table = blocks.table; view = fresh blocks.partition number spare }

-- a hand for each worker, in order
abbrev pub new_hands : BlocksSeen → List HandSeen
new_hands blocks = map (new_hand blocks) (range_with_len 0 blocks.partition.workers)

-- the fields of the blocks agree
pub record AreBlocks (table : TableId) (key partition : Partition) : Type 0 where
  pub key_is : key ≡ partition
  pub words : table.words ≡ partition.workers
  pub slots : table.slots ≡ 0
  pub some_workers : 0 < partition.workers
  pub few_workers : partition.workers ≤ MOST_WORKERS
  pub small_count : partition.count < 2 ^ 32

-- the plain fields of a hand agree with its view
pub record IsHand (number : ℕ) (met : List Bool) (v : View) : Type 0 where
  pub number_is : number ≡ v.number
  pub in_range : v.number < v.partition.workers
  pub met_is : (b : ℕ) → b < MOST_WORKERS → copies b v.met ≡ cond (get_or met b false) 1 0
