-- What follows from what a node holds.
use Rattle.std.proofs.Common.{ℕ, ◌<◌, ◌≤◌, inl, inr, arith}
use Rattle.interval_tree.specs.declared.node.Node.{Node}
use Rattle.interval_tree.specs.declared.node.Node.TheVariants.{NoRows, Row, Rows'}
use Rattle.interval_tree.specs.Node.{Holds}
use Rattle.interval_tree.specs.Path.{standing_without}

module _ {V : Type 0} where
  pub Holds-map : (stands others : ℕ → ℕ → V → Type 0) (lo hi : ℕ)
      → ((l h : ℕ) (v : V) → lo ≤ l → h ≤ hi → stands l h v → others l h v)
      → (l h : ℕ) (node : Node V) → lo ≤ l → h ≤ hi → Holds stands l h node → Holds others l h node
  Holds-map stands others lo hi along l h NoRows from to holds = holds
  Holds-map stands others lo hi along l h (Row w) from to (a, b) = (a, along l h w from to b)
  Holds-map stands others lo hi along l h (Rows' p left mid w q right) from to (a, b, c, d, e, f, g) = (
    a,
    b,
    c,
    d,
    Holds-map stands others lo hi along l mid left from (omega arith) e,
    Holds-map stands others lo hi along mid h right (omega arith) to f,
    along l h w from to g,
  )

  pub holds_above : (stands : ℕ → ℕ → V → Type 0) (row lo hi : ℕ) (node : Node V) → row < lo
      → Holds (standing_without stands row) lo hi node → Holds stands lo hi node
  holds_above stands row lo hi node outside =
      Holds-map (standing_without stands row) stands lo hi (λ l h v from to stood. stood (inl (omega arith)))
      lo hi node (omega arith) (omega arith)

  pub holds_below : (stands : ℕ → ℕ → V → Type 0) (row lo hi : ℕ) (node : Node V) → hi ≤ row
      → Holds (standing_without stands row) lo hi node → Holds stands lo hi node
  holds_below stands row lo hi node outside =
      Holds-map (standing_without stands row) stands lo hi (λ l h v from to stood. stood (inr (omega arith)))
      lo hi node (omega arith) (omega arith)
