-- What holds of each row that fits.
use Rattle.std.specs.Prelude.{ℕ, zero, suc, List, [], ◌∷◌, All}
use Rattle.std.proofs.lemmas.List.Elements.{All-head, All-tail}
use Rattle.semiring_kit.specs.Semiring.{SemiringOn, IsSemiring, IsGood}
use Rattle.semiring_kit.proofs.Sums.{zero_is_good}
use Rattle.lane_rows.specs.Lanes.{IsGoodLane}
use Rattle.lane_rows.specs.Rows.{shown, FitsRow}

module _ {E L : Type 0} {r : SemiringOn E} (laws : IsSemiring r) (is_lane : L → Type 0) (shows : L → E) where
  good_at : (row : List L) (k : ℕ) → All (IsGoodLane r is_lane shows) row → IsGood r (shown r shows row k)
  good_at [] k good = zero_is_good laws
  good_at (x ∷ xs) zero good = (All-head (IsGoodLane r is_lane shows) x xs good).good
  good_at (x ∷ xs) (suc k) good = good_at xs k (All-tail (IsGoodLane r is_lane shows) x xs good)

  pub shown_is_good : (size : ℕ) (row : List L) (k : ℕ) → FitsRow r is_lane shows size row
      → IsGood r (shown r shows row k)
  shown_is_good size row k fits = good_at row k fits.are_good
