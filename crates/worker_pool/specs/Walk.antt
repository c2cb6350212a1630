-- The walk over the rows of a cut: the parts that make up the value of all rows, and their cost.
use Rattle.std.specs.Prelude.{ℕ, ◌+◌, ◌-◌, ◌==◌, ◌<◌, ◌≤◌, nat_lt, max, Bool, true, false, ◌&&◌, cond}
use Rattle.std.specs.Prelude.{List, [], ◌∷◌, map, filter, fold, sum_by, drop, slice_index}
use Rattle.std.specs.List.{list_any}
use Rattle.interval_kit.specs.declared.piece.Piece.{Piece}

-- the rows lo..hi, which a piece has or which are computed as a leaf
pub record Part : Type 0 where
  pub lo : ℕ
  pub hi : ℕ
  pub computed : Bool

abbrev pub part : ℕ → ℕ → Bool → Part
part lo hi computed = record { lo = lo; hi = hi; computed = computed }

module _ {W : Type 0} where
  -- a piece of some of the rows, whose value stands for its interval
  pub record IsGood (rows : ℕ) (stands : ℕ → ℕ → W → Type 0) (p : Piece W) : Type 0 where
    pub nonempty : p.lo < p.hi
    pub within : p.hi ≤ rows
    pub value_stands : stands p.lo p.hi p.value

  -- the piece's interval begins at lo and ends at a bound of the cut
  abbrev pub fits : List ℕ → ℕ → Piece W → Bool
  fits bounds lo p = p.lo == lo && list_any (λ b. b == p.hi) bounds

  module _ (bounds : List ℕ) (pieces : List (Piece W)) where
    -- where the longest of the intervals ends that begin at lo and end at a bound, or 0
    abbrev pub longest_end : ℕ → ℕ
    longest_end lo = fold max 0 (map (λ p. p.hi) (filter (fits bounds lo) pieces))

    -- the part that begins at lo: the longest of those intervals, or the leaf up to the next bound
    abbrev pub part_at : ℕ → ℕ → Part
    part_at lo next =
        cond (longest_end lo == 0) (part lo next true) (part lo (longest_end lo) false)

    -- the parts from the place `at` on. Of the bounds from lo on, those before `at` begin no part
    abbrev pub walk_from : ℕ → ℕ → List ℕ → List Part
    walk_from at lo [] = []
    walk_from at lo (next ∷ later) =
        cond (nat_lt lo at) (walk_from at next later)
        (part_at lo next ∷ walk_from (part_at lo next).hi next later)

    -- the parts from the first row to the end of the rows
    abbrev pub walk : List Part
    walk = walk_from 0 (slice_index bounds 0) (drop 1 bounds)

abbrev pub part_cost : (ℕ → ℕ) → Part → ℕ
part_cost leaf p = cond p.computed (leaf (p.hi - p.lo)) 0

-- a leaf for each part that is computed, and a join for each part but the first;
-- a leaf of no rows where there is no part
abbrev pub walk_cost : (ℕ → ℕ) → ℕ → List Part → ℕ
walk_cost leaf join [] = leaf 0
walk_cost leaf join (p ∷ ps) = part_cost leaf p + sum_by (λ q. join + part_cost leaf q) ps

-- how many rows the leaf of this number has
abbrev pub leaf_rows : List ℕ → ℕ → ℕ
leaf_rows bounds number = slice_index bounds (number + 1) - slice_index bounds number

-- the numbers of rows of the leaves from the bound lo on
abbrev pub sizes_from : ℕ → List ℕ → List ℕ
sizes_from lo [] = []
sizes_from lo (next ∷ later) = (next - lo) ∷ sizes_from next later

abbrev pub sizes_cost : (ℕ → ℕ) → ℕ → List ℕ → ℕ
sizes_cost leaf join [] = leaf 0
sizes_cost leaf join (n ∷ ns) = sum_by (λ rows. leaf rows + join) (n ∷ ns)

-- a leaf and a join for each leaf of the cut; a leaf of no rows where there is none
abbrev pub cut_cost : (ℕ → ℕ) → ℕ → List ℕ → ℕ
cut_cost leaf join bounds = sizes_cost leaf join (sizes_from (slice_index bounds 0) (drop 1 bounds))
