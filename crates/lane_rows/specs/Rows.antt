-- Rows of lanes as maps: a row has a lane for each key.
use Rattle.std.specs.Prelude.{◌≡◌, ℕ, ◌+◌, List, [], ◌∷◌, All, length, map, nat_eq, slice_index_or}
use Rattle.std.specs.List.{range_with_len}
use Rattle.monoid_kit.specs.declared.span.Span.{Span}
use Rattle.monoid_kit.specs.Spans.{moved}
use Rattle.semiring_kit.specs.Semiring.{SemiringOn}
use Rattle.semiring_kit.specs.Total.{masked, total}
use Rattle.lane_rows.specs.Lanes.{IsGoodLane}

-- what the row shows at key k; past the row it shows zero
abbrev pub shown : {E L : Type 0} → SemiringOn E → (L → E) → List L → ℕ → E
shown r shows row k = slice_index_or (map shows row) k r.zero

-- the row has a lane for each key, each of them sound, and each shows a good element
pub record FitsRow {E L : Type 0} (r : SemiringOn E) (is_lane : L → Type 0) (shows : L → E) (size : ℕ) (row : List L) :
    Type 0 where
  pub has_size : length row ≡ size
  pub are_good : All (IsGoodLane r is_lane shows) row

-- the new row is as long, has good lanes, and shows at each key the sum of what the old one shows and of what is added
pub record IsLifted {E L : Type 0} (r : SemiringOn E) (is_lane : L → Type 0) (shows : L → E) (old new : List L)
    (added : ℕ → E) : Type 0 where
  pub same_length : length new ≡ length old
  pub are_good : All (IsGoodLane r is_lane shows) new
  pub values : (k : ℕ) → shown r shows new k ≡ r.add (shown r shows old k) (added k)

-- what the elements have at key k, where the first lies at key `to`, and each further one at the next key
abbrev pub run_at : {E : Type 0} → SemiringOn E → ℕ → List E → ℕ → E
run_at r to [] k = r.zero
run_at r to (x ∷ xs) k = r.add (masked r (nat_eq to k) x) (run_at r (to + 1) xs k)

-- what the products of x with the elements of a span, put where it moves them, have at key k
abbrev pub span_at : {E : Type 0} → SemiringOn E → E → Span → (ℕ → E) → ℕ → E
span_at r x span y k =
    total r (λ i. masked r (nat_eq (moved span i) k) (r.mul x (y (span.from + i)))) (range_with_len 0 span.len)

-- what the products of x with the values at the keys below n, put where `move` has them, have at key k
abbrev pub moved_at : {E : Type 0} → SemiringOn E → E → (ℕ → ℕ) → ℕ → (ℕ → E) → ℕ → E
moved_at r x move n y k = total r (λ b. masked r (nat_eq (move b) k) (r.mul x (y b))) (range_with_len 0 n)
