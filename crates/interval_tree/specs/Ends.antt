-- A row more, and a row less, at the end of a node.
use Rattle.std.specs.Prelude.{◌≡◌, ℕ, ◌+◌, ◌-◌, ◌^◌, ◌<◌, ◌≤◌, Option, Some, None}
use Rattle.interval_tree.specs.declared.node.Node.{Node}
use Rattle.interval_tree.specs.declared.node.Node.TheVariants.{NoRows, Row, Rows'}
use Rattle.interval_tree.specs.declared.grown.Grown.{Grown}
use Rattle.interval_tree.specs.declared.grown.Grown.TheVariants.{First, Beside, Below'}
use Rattle.interval_tree.specs.declared.shrunk.Shrunk.{Shrunk}
use Rattle.interval_tree.specs.declared.shrunk.Shrunk.TheVariants.{Gone, LeftAlone, Within'}
use Rattle.interval_tree.specs.Node.{Holds, height}

module _ {V : Type 0} where
  -- the value of all rows with the new one
  abbrev pub grown_value : Grown V → V
  grown_value (First value) = value
  grown_value (Beside left value row) = value
  grown_value (Below' p below value) = value

  -- the row hi lies beside the rows lo..hi
  abbrev pub IsBeside : (ℕ → ℕ → V → Type 0) → ℕ → ℕ → Grown V → Type 0
  IsBeside stands lo hi (First value) = ⊥
  IsBeside stands lo hi (Beside left value row) = Holds stands hi (hi + 1) row.value × stands lo (hi + 1) value
  IsBeside stands lo hi (Below' p below value) = ⊥

  -- what is added has a value for each interval at the end that has the row behind the node's rows lo..hi: for the row
  -- alone, for the row behind as many rows as its height allows, and for the right side with the row
  abbrev pub Grows : (ℕ → ℕ → V → Type 0) → ℕ → ℕ → Node V → Grown V → Type 0
  Grows stands lo hi NoRows (First value) = stands hi (hi + 1) value
  Grows stands lo hi (Row old) (Beside left value row) =
      Holds stands hi (hi + 1) row.value × stands lo (hi + 1) value
  Grows stands lo hi (Rows' r first mid old s rest) (Beside left value row) =
      (hi - mid ≡ mid - lo) × Holds stands hi (hi + 1) row.value × stands lo (hi + 1) value
  Grows stands lo hi (Rows' r first mid old s rest) (Below' p below value) =
      (hi - mid < mid - lo) × Grows stands mid hi rest below × stands lo (hi + 1) value
  Grows stands lo hi NoRows (Beside left value row) = ⊥
  Grows stands lo hi NoRows (Below' p below value) = ⊥
  Grows stands lo hi (Row old) (First value) = ⊥
  Grows stands lo hi (Row old) (Below' p below value) = ⊥
  Grows stands lo hi (Rows' r first mid old s rest) (First value) = ⊥

  -- what is left without the last of the node's rows lo..hi: nothing, the left side where the right one is that row, or
  -- else new values for the right side and for all
  abbrev pub Shrinks : (ℕ → ℕ → V → Type 0) → ℕ → ℕ → Node V → Shrunk V → Type 0
  Shrinks stands lo hi (Row old) Gone = Unit {0}
  Shrinks stands lo hi (Rows' r first mid old s rest) LeftAlone = hi ≡ mid + 1
  Shrinks stands lo hi (Rows' r first mid old s rest) (Within' p below value) =
      (mid + 1 < hi) × Shrinks stands mid hi rest below × stands lo (hi - 1) value
  Shrinks stands lo hi NoRows shrunk = ⊥
  Shrinks stands lo hi (Row old) LeftAlone = ⊥
  Shrinks stands lo hi (Row old) (Within' p below value) = ⊥
  Shrinks stands lo hi (Rows' r first mid old s rest) Gone = ⊥
