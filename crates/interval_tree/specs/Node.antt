-- The nodes of a tree: what each holds of its rows.
use Rattle.std.specs.Prelude.{◌≡◌, ℕ, ◌+◌, ◌-◌, ◌^◌, ◌<◌, ◌≤◌, max, Option, Some, None}
use Rattle.interval_tree.specs.declared.node.Node.{Node}
use Rattle.interval_tree.specs.declared.node.Node.TheVariants.{NoRows, Row, Rows'}

module _ {V : Type 0} where
  abbrev pub IsEmpty : Node V → Type 0
  IsEmpty NoRows = Unit {0}
  IsEmpty (Row value) = ⊥
  IsEmpty (Rows' p left mid value q right) = ⊥

  -- this is the value of all rows of the node
  abbrev pub HasValue : Node V → V → Type 0
  HasValue NoRows v = ⊥
  HasValue (Row value) v = v ≡ value
  HasValue (Rows' p left mid value q right) v = v ≡ value

  -- the value of all rows of the node, where it has some
  abbrev pub top_value : Node V → Option V
  top_value NoRows = None
  top_value (Row value) = Some value
  top_value (Rows' p left mid value q right) = Some value

  -- how many joins lie above the deepest row
  abbrev pub height : Node V → ℕ
  height NoRows = 0
  height (Row value) = 0
  height (Rows' p left mid value q right) = max (height left) (height right) + 1

  -- the node holds the rows lo..hi: each of its values stands for its rows, and at each division the left side has as
  -- many rows as its height allows, and no fewer than the right side
  abbrev pub Holds : (ℕ → ℕ → V → Type 0) → ℕ → ℕ → Node V → Type 0
  Holds stands lo hi NoRows = lo ≡ hi
  Holds stands lo hi (Row value) = (hi ≡ lo + 1) × stands lo hi value
  Holds stands lo hi (Rows' p left mid value q right) =
      (lo < mid) × (mid < hi) × (mid ≡ lo + 2 ^ height left) × (hi - mid ≤ mid - lo)
      × Holds stands lo mid left × Holds stands mid hi right × stands lo hi value
