-- The values anew of the intervals with one row.
use Rattle.std.specs.Prelude.{ℕ, ◌<◌, ◌≤◌}
use Rattle.interval_tree.specs.Editable.{IsOutside}
use Rattle.interval_tree.specs.declared.node.Node.{Node}
use Rattle.interval_tree.specs.declared.node.Node.TheVariants.{NoRows, Row, Rows'}
use Rattle.interval_tree.specs.declared.replace.Path.{Path}
use Rattle.interval_tree.specs.declared.replace.Path.TheVariants.{Leaf, Above'}

module _ {V : Type 0} where
  -- the value of the most rows
  abbrev pub path_value : Path V → V
  path_value (Leaf value) = value
  path_value (Above' p below value) = value

  -- the path has a value for each interval of the node that has the row
  abbrev pub Renews : (ℕ → ℕ → V → Type 0) → ℕ → ℕ → ℕ → Node V → Path V → Type 0
  Renews stands row lo hi (Row old) (Leaf value) = stands lo hi value
  Renews stands row lo hi (Rows' p left mid old q right) (Above' r below value) =
      (row < mid → Renews stands row lo mid left below) × (mid ≤ row → Renews stands row mid hi right below)
      × stands lo hi value
  Renews stands row lo hi NoRows path = ⊥
  Renews stands row lo hi (Row old) (Above' r below value) = ⊥
  Renews stands row lo hi (Rows' p left mid old q right) (Leaf value) = ⊥

-- what stands for an interval without the row
abbrev pub standing_without : {V : Type 0} → (ℕ → ℕ → V → Type 0) → ℕ → ℕ → ℕ → V → Type 0
standing_without stands row lo hi value = IsOutside row lo hi → stands lo hi value
