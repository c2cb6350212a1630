-- The board as contracts see it, and what each change makes of it.
use Rattle.std.specs.Prelude.{◌≡◌, ℕ, ◌+◌, ◌-◌, ◌==◌, nat_le, Bool, ◌&&◌, ◌||◌, cond, List, [], ◌∷◌, ◌++◌, length}
use Rattle.std.specs.Prelude.{Option, Some, None, IsTrue}
use Rattle.std.specs.List.{list_all, list_any}
use Rattle.interval_kit.specs.declared.piece.Piece.{Piece}
use Rattle.board_core.specs.declared.event.Event.{Event}
use Rattle.board_core.specs.declared.event.Event.TheVariants as event
use Rattle.board_core.specs.declared.event.Reply.{Reply}
use Rattle.board_core.specs.declared.event.Reply.TheVariants as reply
use Rattle.board_core.specs.declared.event.Logged.{Logged}
use Rattle.board_core.specs.declared.taken.Claim.{Claim}
use Rattle.board_core.specs.declared.taken.Taken.{Taken}
use Rattle.board_core.specs.Ordered.{put_by, without}

-- `held` and `claims` are listed by ascending lo, and `log` from the first entry to the last
pub record PlainBoard (W : Type 0) : Type 0 where
  pub rows : ℕ
  pub room : ℕ
  pub held : List (Piece W)
  pub claims : List Claim
  pub log : List Logged

abbrev pub claim_at : ℕ → ℕ → ℕ → ℕ → Claim
claim_at who lo mid hi = record { who = who; lo = lo; mid = mid; hi = hi }

abbrev pub entry : ℕ → Event → Reply → Logged
entry who event reply = record { who = who; event = event; reply = reply }

-- two intervals that have no row in common
abbrev pub apart : ℕ → ℕ → ℕ → ℕ → Bool
apart lo hi from to = nat_le hi from || nat_le to lo

abbrev pub claims_clear : ℕ → ℕ → List Claim → Bool
claims_clear lo hi claims = list_all (λ c. apart lo hi c.lo c.hi) claims

abbrev pub put_claim : Claim → List Claim → List Claim
put_claim claim claims = put_by (λ c. c.lo) claim claims

abbrev pub is_same : Claim → Claim → Bool
is_same c d = c.who == d.who && (c.lo == d.lo && (c.mid == d.mid && c.hi == d.hi))

abbrev pub without_claim : Claim → List Claim → List Claim
without_claim claim claims = without (λ c. is_same c claim) claims

module _ {W : Type 0} where
  abbrev pub plain : ℕ → ℕ → List (Piece W) → List Claim → List Logged → PlainBoard W
  plain rows room held claims log =
      record { rows = rows; room = room; held = held; claims = claims; log = log }

  abbrev pub empty : ℕ → ℕ → PlainBoard W
  empty rows room = plain rows room [] [] []

  abbrev pub piece_at : ℕ → ℕ → W → Piece W
  piece_at lo hi value = record { lo = lo; hi = hi; value = value }

  abbrev pub pair_of : ℕ → Piece W → Piece W → Taken W
  pair_of who left right = record { who = who; left = left; right = right }

  -- entries that the room still has, where each claim has set aside the one that closes it
  abbrev pub free : PlainBoard W → ℕ
  free b = b.room - (length b.log + length b.claims)

  abbrev pub held_clear : ℕ → ℕ → List (Piece W) → Bool
  held_clear lo hi held = list_all (λ p. apart lo hi p.lo p.hi) held

  -- the interval meets no held one and no claimed one
  abbrev pub is_clear : ℕ → ℕ → PlainBoard W → Bool
  is_clear lo hi b = held_clear lo hi b.held && claims_clear lo hi b.claims

  -- the first two neighbours of the list of which one ends where the other begins
  abbrev pub pair_from : Piece W → List (Piece W) → Option (Piece W × Piece W)
  pair_from p [] = None
  pair_from p (q ∷ qs) = cond (p.hi == q.lo) (Some (p, q)) (pair_from q qs)

  abbrev pub first_pair : List (Piece W) → Option (Piece W × Piece W)
  first_pair [] = None
  first_pair (p ∷ ps) = pair_from p ps

  abbrev pub rest_from : Piece W → List (Piece W) → List (Piece W)
  rest_from p [] = p ∷ []
  rest_from p (q ∷ qs) = cond (p.hi == q.lo) qs (p ∷ rest_from q qs)

  -- what is held when the first pair has gone
  abbrev pub without_pair : List (Piece W) → List (Piece W)
  without_pair [] = []
  without_pair (p ∷ ps) = rest_from p ps

  abbrev pub put_piece : Piece W → List (Piece W) → List (Piece W)
  put_piece piece held = put_by (λ p. p.lo) piece held

  -- the claim that stands for a pair
  abbrev pub claim_of : Taken W → Claim
  claim_of t = claim_at t.who t.left.lo t.left.hi t.right.hi

  -- the two pieces adjoin, and their claim is among the claims
  abbrev pub IsClaim : Taken W → List Claim → Type 0
  IsClaim t claims =
      (t.left.hi ≡ t.right.lo) × IsTrue (list_any (λ c. is_same c (claim_of t)) claims)

  -- the entries of the calls that change the board
  abbrev pub offer_entry : ℕ → Piece W → Logged
  offer_entry who p = entry who (event.Offer p.lo p.hi) reply.Kept

  abbrev pub claim_entry : ℕ → Taken W → Logged
  claim_entry who t = entry who event.Claim (reply.Pair t.left.lo t.left.hi t.right.hi)

  abbrev pub settle_entry : Taken W → Logged
  settle_entry t = entry t.who (event.Settle t.left.lo t.left.hi t.right.hi) reply.Kept

  abbrev pub put_back_entry : Taken W → Logged
  put_back_entry t = entry t.who (event.PutBack t.left.lo t.left.hi t.right.hi) reply.Kept

  -- the same rows and room, with one entry more
  abbrev pub noted : PlainBoard W → List (Piece W) → List Claim → Logged → PlainBoard W
  noted b held claims e = plain b.rows b.room held claims (b.log ++ e ∷ [])

  -- the board after an offer that is kept
  abbrev pub with_offer : PlainBoard W → ℕ → Piece W → PlainBoard W
  with_offer b who p = noted b (put_piece p b.held) b.claims (offer_entry who p)

  -- the board after a claim that hands out the first pair
  abbrev pub with_claim : PlainBoard W → Taken W → PlainBoard W
  with_claim b t =
      noted b (without_pair b.held) (put_claim (claim_of t) b.claims) (claim_entry t.who t)

  -- the board after the claim ended in a value for the joint interval
  abbrev pub with_settle : PlainBoard W → Taken W → W → PlainBoard W
  with_settle b t value =
      noted b (put_piece (piece_at t.left.lo t.right.hi value) b.held)
      (without_claim (claim_of t) b.claims) (settle_entry t)

  -- the board after the claim ended and both pieces came back
  abbrev pub with_put_back : PlainBoard W → Taken W → PlainBoard W
  with_put_back b t =
      noted b (put_piece t.left (put_piece t.right b.held))
      (without_claim (claim_of t) b.claims) (put_back_entry t)
