-- What one fetch-and-add on a block's word tells its caller.
use Rattle.std.specs.Prelude.{ℕ, ◌≡◌, ◌+◌, ◌<◌, ◌≤◌}
use Rattle.atomic_table.specs.Table.{Me, Step}
use Rattle.steal_deal.specs.declared.view.View.{View}
use Rattle.steal_deal.specs.Partition.{block_size, block_begin}
use Rattle.steal_deal.specs.Draws.{DrawnFrom, draws_on}
use Rattle.steal_deal.specs.Views.{gained, found_empty}

-- the word read n: the hand gets the number at this place of the block, or finds none there
pub record DrawsAt (v : View) (b n : ℕ) (w : View) : Type 0 where
  pub before : DrawnFrom v
  pub word : draws_on before b ≡ n
  pub gives : n < block_size v.partition b → w ≡ gained v (block_begin v.partition b + n)
  pub finds_none : block_size v.partition b ≤ n → w ≡ found_empty v b

abbrev pub draws : Step (Unit {0}) → Me (Unit {0}) View → ℕ → Me (Unit {0}) View → Type 0
draws step before n after = DrawsAt before.0 step.word n after.0
