-- What holds of every board, whatever was asked of it.
use Rattle.std.specs.Prelude.{◌≡◌, ℕ, ◌+◌, ◌<◌, ◌≤◌, nat_le, nat_lt, ◌&&◌, cond, List, length, map, sum_by}
use Rattle.interval_kit.specs.declared.piece.Piece.{Piece}
use Rattle.board_core.specs.declared.event.Event.{Event}
use Rattle.board_core.specs.declared.event.Event.TheVariants as event
use Rattle.board_core.specs.declared.event.Reply.{Reply}
use Rattle.board_core.specs.declared.event.Reply.TheVariants as reply
use Rattle.board_core.specs.declared.event.Logged.{Logged}
use Rattle.board_core.specs.declared.taken.Claim.{Claim}
use Rattle.board_core.specs.declared.taken.Taken.{Taken}
use Rattle.board_core.specs.declared.taken.CoreOffered.{CoreOffered}
use Rattle.board_core.specs.declared.taken.CoreOffered.TheVariants as offered
use Rattle.board_core.specs.declared.taken.CoreClaimed.{CoreClaimed}
use Rattle.board_core.specs.declared.taken.CoreClaimed.TheVariants as claimed
use Rattle.board_core.specs.Ordered.{Each, IsRisingBy}
use Rattle.board_core.specs.Board.{PlainBoard, plain, empty, pair_of}
use Rattle.board_core.specs.Calls.{Call, Lead, offer, claim, settle, put_back}
use Rattle.board_core.specs.Replay.{Bare, gap, replay, IsLegal}

-- 1 for a row of the interval, and 0 for any other
abbrev pub covers : ℕ → ℕ → ℕ → ℕ
covers row lo hi = cond (nat_le lo row && nat_lt row hi) 1 0

-- how many claimed intervals have the row
abbrev pub claims_at : ℕ → List Claim → ℕ
claims_at row claims = sum_by (λ c. covers row c.lo c.hi) claims

abbrev pub offered_at : ℕ → Event → Reply → ℕ
offered_at row (event.Offer lo hi) reply.Kept = covers row lo hi
offered_at row event reply = 0

-- how many kept offers of the log have the row
abbrev pub offers_at : ℕ → List Logged → ℕ
offers_at row log = sum_by (λ e. offered_at row e.event e.reply) log

module _ {W : Type 0} where
  -- how many held intervals have the row
  abbrev pub held_at : ℕ → List (Piece W) → ℕ
  held_at row held = sum_by (λ p. covers row p.lo p.hi) held

  -- without the values
  abbrev pub blank : Piece W → Piece (Unit {0})
  blank p = gap p.lo p.hi

  abbrev pub bare : PlainBoard W → Bare
  bare b = plain b.rows b.room (map blank b.held) b.claims b.log

  abbrev pub blank_pair : Taken W → Taken (Unit {0})
  blank_pair t = pair_of t.who (blank t.left) (blank t.right)

  abbrev pub blank_offered : CoreOffered W → CoreOffered (Unit {0})
  blank_offered offered.Kept = offered.Kept
  blank_offered (offered.Overlaps p) = offered.Overlaps (blank p)
  blank_offered (offered.Full p) = offered.Full (blank p)

  abbrev pub blank_claimed : CoreClaimed W → CoreClaimed (Unit {0})
  blank_claimed (claimed.Pair t) = claimed.Pair (blank_pair t)
  blank_claimed claimed.NoPair = claimed.NoPair
  blank_claimed claimed.Full = claimed.Full

  pub record IsTidy (b : PlainBoard W) : Type 0 where
    -- each interval is nonempty and within the rows
    pub held_within : Each (λ p. (p.lo < p.hi) × (p.hi ≤ b.rows)) b.held
    pub claims_within : Each (λ c. (c.lo < c.mid) × (c.mid < c.hi) × (c.hi ≤ b.rows)) b.claims
    -- the lists ascend
    pub held_rises : IsRisingBy (λ p. p.lo) b.held
    pub claims_rise : IsRisingBy (λ c. c.lo) b.claims
    -- a row is in as many held and claimed intervals as in kept offers, and in at most one
    pub covered : (row : ℕ) → held_at row b.held + claims_at row b.claims ≡ offers_at row b.log
    pub once : (row : ℕ) → offers_at row b.log ≤ 1
    -- each claim has an entry set aside
    pub fits : length b.log + length b.claims ≤ b.room

  -- what holds of every board, the values aside
  pub record IsSound (b : PlainBoard W) : Type 0 where
    pub tidy : IsTidy b
    pub legal : IsLegal b.rows b.room b.log
    -- the intervals, the claims and the log are those that the log gives
    pub replayed : bare b ≡ replay b.rows b.room b.log

  module _ (stands : ℕ → ℕ → W → Type 0) where
    abbrev pub HasStanding : Piece W → Type 0
    HasStanding p = stands p.lo p.hi p.value

    -- a sound board on which each held value stands for its interval
    pub record IsSoundFor (b : PlainBoard W) : Type 0 where
      pub sound : IsSound b
      pub stand : Each HasStanding b.held

    -- the values that a call brings stand for their intervals
    abbrev pub Brings : Call W → Type 0
    Brings (offer who p answer) = HasStanding p
    Brings (claim who answer) = Unit {0}
    Brings (settle t value) = stands t.left.lo t.right.hi value
    Brings (put_back t) = HasStanding t.left × HasStanding t.right

    -- whatever calls lead from an empty board to this one, it is sound, and its values stand
    abbrev pub EveryBoardIsSound : Type 0
    EveryBoardIsSound = (rows room : ℕ) (calls : List (Call W)) (b : PlainBoard W)
        → Each Brings calls → Lead (empty rows room) calls b → IsSoundFor b

    -- whatever calls lead from a sound board with standing values, the board after them is one too
    abbrev pub EveryCallKeeps : Type 0
    EveryCallKeeps = (b : PlainBoard W) (calls : List (Call W)) (d : PlainBoard W)
        → IsSoundFor b → Each Brings calls → Lead b calls d → IsSoundFor d
