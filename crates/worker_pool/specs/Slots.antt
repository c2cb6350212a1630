-- The longest piece at each bound of a cut. No public clause cites this.
use Rattle.std.specs.Prelude.{ℕ, ◌≡◌, ◌<◌, ◌≤◌, ◌==◌, nat_lt, true, false, ◌&&◌, cond}
use Rattle.std.specs.Prelude.{List, length, slice_index, slice_index_or, Option, Some, None}
use Rattle.std.specs.List.{Contains, list_any}
use Rattle.interval_kit.specs.declared.piece.Piece.{Piece}
use Rattle.worker_pool.specs.Walk.{IsGood, Part, part, fits, longest_end}

module _ {W : Type 0} where
  abbrev pub slot_end : Option (Piece W) → ℕ
  slot_end None = 0
  slot_end (Some p) = p.hi

  abbrev pub AreEmpty : List (Option (Piece W)) → Type 0
  AreEmpty slots = (j : ℕ) → j < length slots → slice_index_or slots j None ≡ None

  -- what stands at the bound lo once one more piece was seen
  abbrev pub longer : List ℕ → ℕ → Piece W → Option (Piece W) → Option (Piece W)
  longer bounds lo p slot = cond (fits bounds lo p && nat_lt (slot_end slot) p.hi) (Some p) slot

  abbrev pub KeepsLongest : List ℕ → Piece W → List (Option (Piece W)) → List (Option (Piece W))
      → Type 0
  KeepsLongest bounds p old new = (j : ℕ) → j < length bounds
      → slice_index_or new j None
      ≡ longer bounds (slice_index bounds j) p (slice_index_or old j None)

  -- the longest of the pieces that fit at the bound lo, or nothing where none does
  abbrev pub IsLongest : List ℕ → List (Piece W) → ℕ → Option (Piece W) → Type 0
  IsLongest bounds pieces lo None = longest_end bounds pieces lo ≡ 0
  IsLongest bounds pieces lo (Some p) =
      Contains pieces p × (p.lo ≡ lo) × (list_any (λ b. b == p.hi) bounds ≡ true)
      × (p.hi ≡ longest_end bounds pieces lo)

  -- so it is at each bound from the given place on
  abbrev pub AreLongest : List ℕ → List (Piece W) → ℕ → List (Option (Piece W)) → Type 0
  AreLongest bounds pieces place slots = (j : ℕ) → place ≤ j → j < length bounds
      → IsLongest bounds pieces (slice_index bounds j) (slice_index_or slots j None)

  -- the part that the piece gives, or the leaf from lo to the next bound
  abbrev pub part_of : ℕ → ℕ → Option (Piece W) → Part
  part_of lo next None = part lo next true
  part_of lo next (Some p) = part lo p.hi false

  -- nothing, or a piece that begins at lo and whose value stands for its interval
  abbrev pub IsGoodSlot : ℕ → (ℕ → ℕ → W → Type 0) → ℕ → Option (Piece W) → Type 0
  IsGoodSlot rows stands lo None = Unit {0}
  IsGoodSlot rows stands lo (Some p) = (p.lo ≡ lo) × IsGood rows stands p
