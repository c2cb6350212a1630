-- What follows from a row more, and a row less, at the end of a node.
use Rattle.std.proofs.Common.{◌≡◌, ℕ, ◌+◌, ◌-◌, ◌^◌, ◌<◌, max, arith, ◌∙◌, sym}
use Rattle.std.specs.Prelude.{Box}
use Rattle.std.specs.declared.alloc.Global.{Global}
use Rattle.interval_tree.specs.declared.node.Node.{Node}
use Rattle.interval_tree.specs.declared.node.Node.TheVariants.{NoRows, Row, Rows'}
use Rattle.interval_tree.specs.declared.grown.Grown.TheVariants.{Beside}
use Rattle.interval_tree.specs.declared.shrunk.Shrunk.{Shrunk}
use Rattle.interval_tree.specs.declared.shrunk.Shrunk.TheVariants.{Gone, Within'}
use Rattle.interval_tree.specs.Node.{Holds, height}
use Rattle.interval_tree.specs.Ends.{Grows, Shrinks}
use Rattle.interval_tree.proofs.Heights.{height_of_full}

module _ {V : Type 0} (stands : ℕ → ℕ → V → Type 0) where
  -- where the row lies beside the node, the node has as many rows as its height allows
  pub beside_full : (lo hi : ℕ) (node : Node V) (left : Box (Node V) Global) (value : V) (row : Box (Node V) Global)
      → Grows stands lo hi node (Beside left value row) → Holds stands lo hi node → hi ≡ lo + 2 ^ height node
  beside_full lo hi NoRows left value row grows holds = absurd grows
  beside_full lo hi (Row w) left value row grows (a, b) = a
  beside_full lo hi (Rows' p first mid w q rest) left value row (same, r, s) holds =
      height_of_full stands lo hi p first mid w q rest holds same

  pub beside_row : (lo hi : ℕ) (node : Node V) (left : Box (Node V) Global) (value : V) (row : Box (Node V) Global)
      → Grows stands lo hi node (Beside left value row)
      → Holds stands hi (hi + 1) row.value × stands lo (hi + 1) value
  beside_row lo hi NoRows left value row grows = absurd grows
  beside_row lo hi (Row w) left value row grows = grows
  beside_row lo hi (Rows' p first mid w q rest) left value row (same, r, s) = (r, s)

  -- a node of which nothing is left has one row
  pub gone_is_one : (lo hi : ℕ) (node : Node V) → Shrinks stands lo hi node Gone → Holds stands lo hi node
      → hi ≡ lo + 1
  gone_is_one lo hi NoRows shrinks holds = absurd shrinks
  gone_is_one lo hi (Row w) shrinks (a, b) = a
  gone_is_one lo hi (Rows' p first mid w q rest) shrinks holds = absurd shrinks

  pub within_stands : (lo hi : ℕ) (node : Node V) (below : Shrunk V) (p : _) (value : V)
      → Shrinks stands lo hi node (Within' p below value) → stands lo (hi - 1) value
  within_stands lo hi NoRows below p value shrinks = absurd shrinks
  within_stands lo hi (Row w) below p value shrinks = absurd shrinks
  within_stands lo hi (Rows' r first mid w q rest) below p value (a, b, c) = c
