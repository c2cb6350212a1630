-- What one turn of a worker does to its seat, and what is in hand after it.
use Rattle.std.specs.Prelude.{ℕ, ◌≡◌, ◌⊎◌, ◌+◌, ◌<◌, ◌≤◌, Bool, true, false}
use Rattle.std.specs.Prelude.{List, ◌++◌, length, count_by}
use Rattle.std.specs.List.{Contains}
use Rattle.interval_kit.specs.declared.piece.Piece.{Piece}
use Rattle.board_core.specs.declared.event.Event.{Event}
use Rattle.board_core.specs.declared.event.Event.TheVariants as event
use Rattle.board_core.specs.declared.event.Reply.{Reply}
use Rattle.board_core.specs.declared.event.Reply.TheVariants as reply
use Rattle.board_core.specs.declared.event.Logged.{Logged}
use Rattle.board_core.specs.declared.taken.CoreOffered.TheVariants as on_offer
use Rattle.board_core.specs.declared.taken.CoreClaimed.TheVariants as on_claim
use Rattle.board_core.specs.Board.{entry}
use Rattle.board_core.specs.Calls.{Offers, Claims}
use Rattle.board_core.specs.Sound.{blank}
use Rattle.board_table.specs.Seen.{SeatSeen}
use Rattle.board_table.specs.Answers.{replay_at}
use Rattle.worker_pool.specs.declared.pocket.Pocket.{Pocket}
use Rattle.worker_pool.specs.declared.pocket.Pocket.TheVariants.{Empty, Offer, Return}
use Rattle.worker_pool.specs.declared.turn.Turn.{Turn}
use Rattle.worker_pool.specs.declared.turn.Turn.TheVariants.{Went, Missed, Refused, Drained, Memory, Unreturned}
use Rattle.worker_pool.specs.Pockets.{HasOffer, IsInHand}

abbrev pub is_pair_reply : Reply → Bool
is_pair_reply (reply.Pair lo mid hi) = true
is_pair_reply reply = false

abbrev pub is_put_back_event : Event → Bool
is_put_back_event (event.PutBack lo mid hi) = true
is_put_back_event event = false

-- the entry of a claim that got a pair
abbrev pub is_pair : Logged → Bool
is_pair e = is_pair_reply e.reply

-- the entry of a pair that was put back
abbrev pub is_put_back : Logged → Bool
is_put_back e = is_put_back_event e.event

-- among the entries is the offer of the rows lo..hi by this caller, which was kept
abbrev pub HasKept : List Logged → ℕ → ℕ → ℕ → Type 0
HasKept entries who lo hi = Contains entries (entry who (event.Offer lo hi) reply.Kept)

module _ {W : Type 0} where
  abbrev pub IsNotDrained : Turn W → Type 0
  IsNotDrained Drained = ⊥
  IsNotDrained answer = Unit {0}

  abbrev pub IfDrained : Turn W → Type 0 → Type 0
  IfDrained Drained P = P
  IfDrained answer P = Unit {0}

  -- what is in hand after the turn
  abbrev pub left_by : Turn W → Pocket W
  left_by (Missed pocket) = pocket
  left_by (Refused p) = Offer p
  left_by (Unreturned t) = Return t
  left_by answer = Empty

  -- how often the turn missed the board
  abbrev pub misses : Turn W → ℕ
  misses (Missed pocket) = 1
  misses (Unreturned t) = 1
  misses answer = 0

  -- how many leaves the turn may have lost, and how many pairs it may have put back
  abbrev pub loses : Turn W → ℕ
  loses Memory = 1
  loses answer = 0

module _ {F : Type 0} where
  -- a claim on the log that the seat has seen gets no pair
  abbrev pub GetsNoPair : SeatSeen F → Type 0
  GetsNoPair seat =
      Claims (replay_at seat seat.seen) seat.number on_claim.NoPair (replay_at seat seat.seen)
      ⊎ Claims (replay_at seat seat.seen) seat.number on_claim.Full (replay_at seat seat.seen)

  module _ {W : Type 0} where
    -- an offer of the piece on the log that the seat has seen is refused
    abbrev pub IsRefused : SeatSeen F → Piece W → Type 0
    IsRefused seat p =
        Offers (replay_at seat seat.seen) seat.number (blank p) (on_offer.Overlaps (blank p))
        (replay_at seat seat.seen)
        ⊎ Offers (replay_at seat seat.seen) seat.number (blank p) (on_offer.Full (blank p))
        (replay_at seat seat.seen)

    -- what the answer tells: progress, or why there is none
    abbrev pub Tells : SeatSeen F → Turn W → SeatSeen F → Type 0
    Tells old Went new = (length old.seen < length new.seen) × (length new.seen ≤ new.room)
    Tells old (Refused p) new = IsRefused new p
    Tells old Drained new = (old.won < new.won) × GetsNoPair new
    Tells old answer new = Unit {0}

    module _ (rows : F → ℕ) (stands : F → ℕ → ℕ → W → Type 0) where
      -- the entries that the seat gained, with so many pairs and at most so many pairs put back
      -- among them, how often it missed the board, and that a piece to offer was kept or is still
      -- in hand
      pub record TurnMakes (old : SeatSeen F) (before after : Pocket W) (pairs backs missed : ℕ)
          (new : SeatSeen F) : Type 0 where
        pub gained : List Logged
        pub mine : new.mine ≡ old.mine ++ gained
        pub pairs_are : count_by is_pair gained ≡ pairs
        pub few_backs : count_by is_put_back gained ≤ backs
        pub missed_are : new.missed ≡ old.missed + missed
        pub won : old.won ≤ new.won
        pub seen : length old.seen ≤ length new.seen
        pub offers : (lo hi : ℕ) → HasOffer before lo hi
            → HasKept gained new.number lo hi ⊎ HasOffer after lo hi
        pub in_hand : IsInHand rows stands new after

      pub record TurnEnds (old : SeatSeen F) (before : Pocket W) (pairs : ℕ) (answer : Turn W)
          (new : SeatSeen F) : Type 0 where
        pub makes : TurnMakes old before (left_by answer) pairs (loses answer) (misses answer) new
        pub tells : Tells old answer new

      -- the leaf lo..hi was kept or is to be offered, or there was no memory for it
      pub record LeafEnds (old : SeatSeen F) (lo hi : ℕ) (answer : Turn W)
          (new : SeatSeen F) : Type 0 where
        pub ends : TurnEnds old Empty 0 answer new
        pub accounted : loses answer ≡ 0
            → HasKept ends.makes.gained new.number lo hi ⊎ HasOffer (left_by answer) lo hi
