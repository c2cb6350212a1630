-- What each call answers, on the caller's seat before and after it.
use Rattle.std.specs.Prelude.{ℕ, ◌≡◌, ◌+◌, ◌<◌, ◌≤◌, List, [], ◌∷◌, ◌++◌, length, Option, IsSomeAnd}
use Rattle.interval_kit.specs.declared.piece.Piece.{Piece}
use Rattle.board_core.specs.declared.event.Logged.{Logged}
use Rattle.board_core.specs.declared.taken.Taken.{Taken}
use Rattle.board_core.specs.declared.taken.CoreOffered.TheVariants as on_offer
use Rattle.board_core.specs.declared.taken.CoreClaimed.TheVariants as on_claim
use Rattle.board_core.specs.declared.taken.Claim.{Claim}
use Rattle.board_core.specs.declared.taken.CoreClaimed.{CoreClaimed}
use Rattle.board_core.specs.Board.{plain, offer_entry, claim_entry, settle_entry, put_back_entry, claim_of, put_claim}
use Rattle.board_core.specs.Board.{without_claim, IsClaim}
use Rattle.board_core.specs.Calls.{Offers, Claims}
use Rattle.board_core.specs.Replay.{Bare, replay, IsLegal, entries_of, claims_of}
use Rattle.board_core.specs.Sound.{blank, blank_pair, IsSoundFor}
use Rattle.board_table.specs.declared.answers.Offered.{Offered}
use Rattle.board_table.specs.declared.answers.Offered.TheVariants as offered
use Rattle.board_table.specs.declared.answers.Claimed.{Claimed}
use Rattle.board_table.specs.declared.answers.Claimed.TheVariants as claimed
use Rattle.board_table.specs.declared.answers.Settled.{Settled}
use Rattle.board_table.specs.declared.answers.Settled.TheVariants as settled
use Rattle.board_table.specs.declared.answers.PutBack.{PutBack}
use Rattle.board_table.specs.declared.answers.PutBack.TheVariants as back
use Rattle.board_table.specs.Views.{StartsWith}
use Rattle.board_table.specs.Seen.{SeatSeen}
use Rattle.board_table.specs.Changes.{Misses, won_seat}

module _ {F W : Type 0} where
  -- in the seat's plan, the value stands for the rows from lo to hi
  abbrev pub StandsIn : (F → ℕ → ℕ → W → Type 0) → Option F → ℕ → ℕ → W → Type 0
  StandsIn stands plan lo hi value = IsSomeAnd plan (λ plan. stands plan lo hi value)

module _ {F : Type 0} where
  -- the row is no further than the end of the plan's rows
  abbrev pub IsWithin : (F → ℕ) → Option F → ℕ → Type 0
  IsWithin rows plan row = IsSomeAnd plan (λ plan. row ≤ rows plan)

module _ {F : Type 0} where
  -- the board without values that a log of the seat's board gives
  abbrev pub replay_at : SeatSeen F → List Logged → Bare
  replay_at seat log = replay seat.rows seat.room log

  -- the call won the turn, and `found` was the log then
  pub record Wins (old : SeatSeen F) (found : List Logged) (new : SeatSeen F) : Type 0 where
    pub won : new.won ≡ old.won + 1
    pub missed : new.missed ≡ old.missed
    pub found_later : StartsWith found old.seen
    pub seen_later : StartsWith new.seen old.seen
    -- the log now seen is legal, and so no longer than the room
    pub legal : IsLegal new.rows new.room new.seen
    pub length : length new.seen ≤ new.room
    -- the seat's entries and claims are those of its number in that log
    pub mine : entries_of new.number new.seen ≡ new.mine
    pub taken : claims_of new.number new.seen ≡ new.taken

  -- the call made this entry and no other
  pub record Adds (old : SeatSeen F) (found : List Logged) (e : Logged)
      (new : SeatSeen F) : Type 0 where
    pub seen : new.seen ≡ found ++ e ∷ []
    pub mine : new.mine ≡ old.mine ++ e ∷ []

  -- the call made no entry
  pub record Leaves (old : SeatSeen F) (found : List Logged) (new : SeatSeen F) : Type 0 where
    pub seen : new.seen ≡ found
    pub mine : new.mine ≡ old.mine
    pub taken : new.taken ≡ old.taken

  -- the call won the turn, and a claim on the log then seen gets this answer
  pub record ClaimRefused (old : SeatSeen F) (answer : CoreClaimed (Unit {0}))
      (new : SeatSeen F) : Type 0 where
    pub found : List Logged
    pub wins : Wins old found new
    pub step : Claims (replay_at new new.seen) new.number answer (replay_at new new.seen)
    pub leaves : Leaves old found new

  module _ {W : Type 0} where
    pub record OfferKept (old : SeatSeen F) (p : Piece W) (new : SeatSeen F) : Type 0 where
      pub found : List Logged
      pub wins : Wins old found new
      pub step : Offers (replay_at new found) new.number (blank p) on_offer.Kept
          (replay_at new new.seen)
      pub adds : Adds old found (offer_entry new.number p) new
      pub taken : new.taken ≡ old.taken

    pub record OfferOverlaps (old : SeatSeen F) (p q : Piece W) (new : SeatSeen F) : Type 0 where
      pub handed_back : q ≡ p
      pub found : List Logged
      pub wins : Wins old found new
      pub step : Offers (replay_at new found) new.number (blank p)
          (on_offer.Overlaps (blank p)) (replay_at new new.seen)
      pub leaves : Leaves old found new

    pub record OfferFull (old : SeatSeen F) (p q : Piece W) (new : SeatSeen F) : Type 0 where
      pub handed_back : q ≡ p
      pub found : List Logged
      pub wins : Wins old found new
      pub step : Offers (replay_at new found) new.number (blank p)
          (on_offer.Full (blank p)) (replay_at new new.seen)
      pub leaves : Leaves old found new

    abbrev pub OfferAnswers : SeatSeen F → Piece W → Offered W → SeatSeen F → Type 0
    OfferAnswers old p offered.Kept new = OfferKept old p new
    OfferAnswers old p (offered.Overlaps q) new = OfferOverlaps old p q new
    OfferAnswers old p (offered.Full q) new = OfferFull old p q new
    OfferAnswers old p (offered.Busy q) new = (q ≡ p) × Misses old new

    -- the pair is claimed by the seat, and is the one that a claim on the log found gets
    pub record ClaimPair (old : SeatSeen F) (t : Taken W) (new : SeatSeen F) : Type 0 where
      pub found : List Logged
      pub wins : Wins old found new
      pub own : t.who ≡ new.number
      pub step : Claims (replay_at new found) new.number (on_claim.Pair (blank_pair t))
          (replay_at new new.seen)
      pub adds : Adds old found (claim_entry new.number t) new
      pub taken : new.taken ≡ put_claim (claim_of t) old.taken
      pub is_claim : IsClaim t new.taken

    abbrev pub ClaimAnswers : SeatSeen F → Claimed W → SeatSeen F → Type 0
    ClaimAnswers old (claimed.Pair t) new = ClaimPair old t new
    ClaimAnswers old claimed.NoPair new = ClaimRefused old on_claim.NoPair new
    ClaimAnswers old claimed.Full new = ClaimRefused old on_claim.Full new
    ClaimAnswers old claimed.Busy new = Misses old new

    -- the seat's claim has ended, with this entry
    pub record Ends (old : SeatSeen F) (t : Taken W) (e : Logged) (new : SeatSeen F) : Type 0 where
      pub found : List Logged
      pub wins : Wins old found new
      pub own : t.who ≡ new.number
      pub adds : Adds old found e new
      pub taken : new.taken ≡ without_claim (claim_of t) old.taken

    abbrev pub SettleAnswers : SeatSeen F → Taken W → W → Settled W → SeatSeen F → Type 0
    SettleAnswers old t value settled.Kept new = Ends old t (settle_entry t) new
    SettleAnswers old t value (settled.Busy u v) new = (u ≡ t) × (v ≡ value) × Misses old new

    abbrev pub PutBackAnswers : SeatSeen F → Taken W → PutBack W → SeatSeen F → Type 0
    PutBackAnswers old t back.Kept new = Ends old t (put_back_entry t) new
    PutBackAnswers old t (back.Busy u) new = (u ≡ t) × Misses old new

    module _ (rows : F → ℕ) (stands : F → ℕ → ℕ → W → Type 0) where
      -- both values stand for their intervals, which are nonempty, adjoin, and lie within the rows
      pub record IsPair (plan : Option F) (t : Taken W) : Type 0 where
        pub left_stands : StandsIn stands plan t.left.lo t.left.hi t.left.value
        pub right_stands : StandsIn stands plan t.right.lo t.right.hi t.right.value
        pub left_nonempty : t.left.lo < t.left.hi
        pub adjoin : t.left.hi ≡ t.right.lo
        pub right_nonempty : t.right.lo < t.right.hi
        pub within : IsWithin rows plan t.right.hi

      abbrev pub PairStands : Option F → Claimed W → Type 0
      PairStands plan (claimed.Pair t) = IsPair plan t
      PairStands plan answer = Unit {0}

      -- the lists are those of the board that was at home, which is sound, and whose log the seat
      -- now sees
      pub record Closes (old new : SeatSeen F) (held : List (Piece W)) (claims : List Claim)
          (log : List Logged) : Type 0 where
        pub seat : new ≡ won_seat old log
        pub later : StartsWith log old.seen
        pub mine : entries_of old.number log ≡ old.mine
        pub taken : claims_of old.number log ≡ old.taken
        pub board : IsSomeAnd old.plan
            (λ plan. IsSoundFor (stands plan) (plain (rows plan) old.room held claims log))
        pub length : length log ≤ old.room
