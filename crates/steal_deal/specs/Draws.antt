-- What one draw from a block gives, on the view of the hand that draws.
use Rattle.std.specs.Prelude.{ℕ, ◌≡◌, ◌⊎◌, ◌+◌, ◌<◌, ◌≤◌, slice_index}
use Rattle.steal_deal.specs.declared.view.View.{View}
use Rattle.steal_deal.specs.declared.hand.Drawn.{Drawn}
use Rattle.steal_deal.specs.declared.hand.Drawn.TheVariants.{Leaf, Empty}
use Rattle.steal_deal.specs.Partition.{block_size, block_begin}
use Rattle.steal_deal.specs.Rule.{BlockTable, IsAt, DealingRule}
use Rattle.steal_deal.specs.Views.{gained, found_empty, copies, times_taken}

-- whether the hand has met the block
abbrev pub HasMet : View → ℕ → Type 0
HasMet v b = copies b v.met ≡ 1

abbrev pub NotMet : View → ℕ → Type 0
NotMet v b = copies b v.met ≡ 0

-- the numbers of block b
abbrev pub IsOf : View → ℕ → ℕ → Type 0
IsOf v b y =
    (block_begin v.partition b ≤ y) × (y < block_begin v.partition b + block_size v.partition b)

-- the blocks at the moment of a draw by a hand with this view, which meet the rule
pub record DrawnFrom (v : View) : Type 0 where
  pub blocks : BlockTable
  pub rule : DealingRule v.partition blocks
  pub place : ℕ
  pub hand : IsAt blocks place v

-- how often block b was drawn from before, and whether a number was handed out
abbrev pub draws_on : {v : View} → DrawnFrom v → ℕ → ℕ
draws_on before b = slice_index before.blocks.words b

abbrev pub IsGone : {v : View} → DrawnFrom v → ℕ → Type 0
IsGone before y = times_taken before.blocks.views y ≡ 1

abbrev pub IsLeft : {v : View} → DrawnFrom v → ℕ → Type 0
IsLeft before y = times_taken before.blocks.views y ≡ 0

-- y is the number of block b at the place that the word told, the lowest that was left
pub record IsLowestLeft (v : View) (b y : ℕ) : Type 0 where
  pub before : DrawnFrom v
  pub within : draws_on before b < block_size v.partition b
  pub is_next : y ≡ block_begin v.partition b + draws_on before b
  pub lower_gone : (x : ℕ) → IsOf v b x → x < y → IsGone before x
  pub others_left : (x : ℕ) → IsOf v b x → y ≤ x → IsLeft before x

-- the word told no place of block b, since all its numbers were handed out
pub record IsUsedUp (v : View) (b : ℕ) : Type 0 where
  pub before : DrawnFrom v
  pub none_left : block_size v.partition b ≤ draws_on before b
  pub all_gone : (x : ℕ) → IsOf v b x → IsGone before x

-- a leaf is the lowest number of its block that is left; it joins `taken`, and nothing else changes
pub record GivesLeaf (v : View) (b y : ℕ) (w : View) : Type 0 where
  pub not_met : NotMet v b
  pub lowest : IsLowestLeft v b y
  pub below : y < v.partition.count
  pub joins : w ≡ gained v y

-- a draw that finds no number left: the block joins `met`, and nothing else changes
pub record FindsNone (v : View) (b : ℕ) (w : View) : Type 0 where
  pub not_met : NotMet v b
  pub used_up : IsUsedUp v b
  pub joins : w ≡ found_empty v b

-- the answer of one call for block b by a hand with view v, which then has view w
abbrev pub Draws : View → ℕ → Drawn → View → Type 0
Draws v b (Leaf y) w = GivesLeaf v b y w
Draws v b Empty w = (HasMet v b × (w ≡ v)) ⊎ FindsNone v b w
