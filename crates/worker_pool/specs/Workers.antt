-- What a worker owes at its end: `old` is its seat as it began, and `new` as it ends.
use Rattle.std.specs.Prelude.{ℕ, ◌≡◌, ◌⊎◌, ◌+◌, ◌<◌, ◌≤◌, List, [], ◌∷◌, ◌++◌, length, count_by, slice_index}
use Rattle.std.specs.List.{Contains}
use Rattle.interval_kit.specs.declared.piece.Piece.{Piece}
use Rattle.board_core.specs.declared.event.Logged.{Logged}
use Rattle.board_core.specs.declared.taken.Claim.{Claim}
use Rattle.steal_deal.specs.declared.view.View.{View}
use Rattle.board_table.specs.Seen.{SeatSeen}
use Rattle.worker_pool.specs.declared.working.WorkEnd.{WorkEnd}
use Rattle.worker_pool.specs.declared.working.WorkEnd.TheVariants.{Drained, Refused, Memory}
use Rattle.worker_pool.specs.Leaves.{HasMetAll}
use Rattle.worker_pool.specs.Turns.{is_pair, is_put_back, HasKept, GetsNoPair, IsRefused}

-- only a worker without memory may have lost a leaf, the last one, and may have put a pair back
abbrev pub lost : WorkEnd → ℕ
lost Memory = 1
lost end = 0

module _ {W : Type 0} where
  -- a piece in the pocket has the rows lo..hi
  abbrev pub HasPiece : List (Piece W) → ℕ → ℕ → Type 0
  HasPiece pocket lo hi = (p : Piece W) × Contains pocket p × (p.lo ≡ lo) × (p.hi ≡ hi)

  -- with no claim, the one piece in the pocket has the rows lo..hi
  abbrev pub IsOnOffer : List Claim → List (Piece W) → ℕ → ℕ → Type 0
  IsOnOffer claims pocket lo hi =
      (claims ≡ []) × ((p : Piece W) × (pocket ≡ p ∷ []) × (p.lo ≡ lo) × (p.hi ≡ hi))

  -- the claim's two pieces are in the pocket, or its joint piece is
  abbrev pub IsHeld : List (Piece W) → Claim → Type 0
  IsHeld pocket c =
      (HasPiece pocket c.lo c.mid × HasPiece pocket c.mid c.hi) ⊎ HasPiece pocket c.lo c.hi

  module _ {F : Type 0} where
    -- the leaf of this number stands in a kept offer, or is the one that is still to be offered
    abbrev pub IsAccounted : List ℕ → List Logged → SeatSeen F → List (Piece W) → ℕ → Type 0
    IsAccounted cut gained new pocket number =
        HasKept gained new.number (slice_index cut number) (slice_index cut (number + 1))
        ⊎ IsOnOffer new.taken pocket (slice_index cut number) (slice_index cut (number + 1))

    pub record WorkAccount (cut : List ℕ) (old new : SeatSeen F) (hand : View)
        (pocket : List (Piece W)) (pairs lost : ℕ) : Type 0 where
      -- what the seat's own entries gained, and how many pairs were put back
      pub gained : List Logged
      pub mine : new.mine ≡ old.mine ++ gained
      pub pairs_are : count_by is_pair gained ≡ pairs
      pub few_backs : count_by is_put_back gained ≤ lost
      -- each leaf that was taken is accounted for, but for the last ones that were lost
      pub leaves : (k : ℕ) → k + lost < length hand.taken
          → IsAccounted cut gained new pocket (slice_index hand.taken k)
      pub claims : (c : Claim) → Contains new.taken c → IsHeld pocket c

    abbrev pub WorkEnds : SeatSeen F → SeatSeen F → View → List (Piece W) → WorkEnd → Type 0
    WorkEnds old new hand pocket Drained =
        (pocket ≡ []) × HasMetAll hand × (old.won < new.won) × GetsNoPair new
    WorkEnds old new hand pocket Refused =
        (new.taken ≡ []) × ((p : Piece W) × (pocket ≡ p ∷ []) × IsRefused new p)
    WorkEnds old new hand pocket end = Unit {0}
