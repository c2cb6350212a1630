-- What a worker has in hand: pieces that stand, and the claim that goes with a pair.
use Rattle.std.specs.Prelude.{ℕ, ◌≡◌, ◌<◌, List, [], ◌∷◌, Option}
use Rattle.interval_kit.specs.declared.piece.Piece.{Piece}
use Rattle.board_core.specs.Board.{piece_at, claim_of}
use Rattle.board_table.specs.Seen.{SeatSeen}
use Rattle.board_table.specs.Answers.{StandsIn, IsWithin, IsPair}
use Rattle.worker_pool.specs.declared.pocket.Pocket.{Pocket}
use Rattle.worker_pool.specs.declared.pocket.Pocket.TheVariants.{Empty, Offer, Settle, Return}

module _ {W : Type 0} where
  abbrev pub pieces_in : Pocket W → List (Piece W)
  pieces_in Empty = []
  pieces_in (Offer p) = p ∷ []
  pieces_in (Settle t value) = piece_at t.left.lo t.right.hi value ∷ []
  pieces_in (Return t) = t.left ∷ t.right ∷ []

  -- the piece to offer has the rows lo..hi
  abbrev pub HasOffer : Pocket W → ℕ → ℕ → Type 0
  HasOffer (Offer p) lo hi = (p.lo ≡ lo) × (p.hi ≡ hi)
  HasOffer pocket lo hi = ⊥

  module _ {F : Type 0} (rows : F → ℕ) (stands : F → ℕ → ℕ → W → Type 0) where
    -- in the plan, a nonempty piece within the rows, whose value stands for its interval
    pub record IsStanding (plan : Option F) (p : Piece W) : Type 0 where
      pub nonempty : p.lo < p.hi
      pub within : IsWithin rows plan p.hi
      pub value_stands : StandsIn stands plan p.lo p.hi p.value

    -- what is in hand stands, and the seat's one claim is that of the pair
    abbrev pub IsInHand : SeatSeen F → Pocket W → Type 0
    IsInHand seat Empty = seat.taken ≡ []
    IsInHand seat (Offer p) = (seat.taken ≡ []) × IsStanding seat.plan p
    IsInHand seat (Settle t value) =
        (seat.taken ≡ claim_of t ∷ []) × IsPair rows stands seat.plan t
        × StandsIn stands seat.plan t.left.lo t.right.hi value
    IsInHand seat (Return t) = (seat.taken ≡ claim_of t ∷ []) × IsPair rows stands seat.plan t
