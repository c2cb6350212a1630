-- Where things stand in lists of intervals. No public clause cites this.
use Rattle.std.specs.Prelude.{ℕ, suc, ◌<◌, ◌≤◌, ◌==◌, nat_le, cond, List, [], ◌∷◌}
use Rattle.interval_kit.specs.declared.piece.Piece.{Piece}
use Rattle.board_core.specs.Ordered.{Each}

module _ {A : Type 0} where
  -- where `put_by` puts an element of this key
  abbrev pub place_of : (A → ℕ) → ℕ → List A → ℕ
  place_of key at [] = 0
  place_of key at (x ∷ xs) = cond (nat_le at (key x)) 0 (suc (place_of key at xs))

  -- each interval is nonempty, and ends before the later ones begin
  abbrev pub AreApart : (A → ℕ) → (A → ℕ) → List A → Type 0
  AreApart lo hi [] = Unit {0}
  AreApart lo hi (x ∷ xs) = (lo x < hi x) × Each (λ y. hi x ≤ lo y) xs × AreApart lo hi xs

module _ {W : Type 0} where
  abbrev pub index_from : Piece W → List (Piece W) → ℕ
  index_from p [] = 1
  index_from p (q ∷ qs) = cond (p.hi == q.lo) 0 (suc (index_from q qs))

  -- where the left one of the first pair stands, or the length
  abbrev pub pair_index : List (Piece W) → ℕ
  pair_index [] = 0
  pair_index (p ∷ ps) = index_from p ps
