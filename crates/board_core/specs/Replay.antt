-- The board without values that a log gives, and which logs are legal.
use Rattle.std.specs.Prelude.{ℕ, ◌==◌, List, [], ◌∷◌, Option, Some, None, IsSomeAnd, fold, filter}
use Rattle.interval_kit.specs.declared.piece.Piece.{Piece}
use Rattle.board_core.specs.declared.event.Event.{Event}
use Rattle.board_core.specs.declared.event.Event.TheVariants as event
use Rattle.board_core.specs.declared.event.Reply.{Reply}
use Rattle.board_core.specs.declared.event.Reply.TheVariants as reply
use Rattle.board_core.specs.declared.event.Logged.{Logged}
use Rattle.board_core.specs.declared.taken.Claim.{Claim}
use Rattle.board_core.specs.declared.taken.Taken.{Taken}
use Rattle.board_core.specs.declared.taken.CoreOffered.TheVariants as offered
use Rattle.board_core.specs.declared.taken.CoreClaimed.TheVariants as claimed
use Rattle.board_core.specs.Board.{PlainBoard, empty, piece_at, pair_of, claim_at, noted, put_piece, put_claim}
use Rattle.board_core.specs.Board.{without_pair, without_claim}
use Rattle.board_core.specs.Calls.{Call, IsStep, offer, claim, settle, put_back}

-- an interval without a value
abbrev pub gap : ℕ → ℕ → Piece (Unit {0})
gap lo hi = piece_at lo hi tt

-- two intervals that meet at `mid`
abbrev pub gap_pair : ℕ → ℕ → ℕ → ℕ → Taken (Unit {0})
gap_pair who lo mid hi = pair_of who (gap lo mid) (gap mid hi)

-- a board without values
abbrev pub Bare : Type 0
Bare = PlainBoard (Unit {0})

-- the call without values that makes an entry, where there is one
abbrev pub entry_call : ℕ → Event → Reply → Option (Call (Unit {0}))
entry_call who (event.Offer lo hi) reply.Kept = Some (offer who (gap lo hi) offered.Kept)
entry_call who event.Claim (reply.Pair lo mid hi) =
    Some (claim who (claimed.Pair (gap_pair who lo mid hi)))
entry_call who (event.Settle lo mid hi) reply.Kept = Some (settle (gap_pair who lo mid hi) tt)
entry_call who (event.PutBack lo mid hi) reply.Kept = Some (put_back (gap_pair who lo mid hi))
entry_call who event reply = None

abbrev pub held_after : List (Piece (Unit {0})) → Event → List (Piece (Unit {0}))
held_after held (event.Offer lo hi) = put_piece (gap lo hi) held
held_after held event.Claim = without_pair held
held_after held (event.Settle lo mid hi) = put_piece (gap lo hi) held
held_after held (event.PutBack lo mid hi) = put_piece (gap lo mid) (put_piece (gap mid hi) held)

abbrev pub claims_by_event : List Claim → ℕ → Event → Reply → List Claim
claims_by_event claims who event.Claim (reply.Pair lo mid hi) =
    put_claim (claim_at who lo mid hi) claims
claims_by_event claims who (event.Settle lo mid hi) reply =
    without_claim (claim_at who lo mid hi) claims
claims_by_event claims who (event.PutBack lo mid hi) reply =
    without_claim (claim_at who lo mid hi) claims
claims_by_event claims who event reply = claims

abbrev pub claims_after : List Claim → Logged → List Claim
claims_after claims e = claims_by_event claims e.who e.event e.reply

-- the board after an entry
abbrev pub after : Bare → Logged → Bare
after b e = noted b (held_after b.held e.event) (claims_after b.claims e) e

abbrev pub replay : ℕ → ℕ → List Logged → Bare
replay rows room log = fold after (empty rows room) log

-- the entry's call is a step from this board, with the entry's answer
abbrev pub MayFollow : Bare → Logged → Type 0
MayFollow b e = IsSomeAnd (entry_call e.who e.event e.reply) (λ call. IsStep b call (after b e))

abbrev pub IsLegalFrom : Bare → List Logged → Type 0
IsLegalFrom b [] = Unit {0}
IsLegalFrom b (e ∷ es) = MayFollow b e × IsLegalFrom (after b e) es

-- each entry's answer is the one that its call gets after the entries before it
abbrev pub IsLegal : ℕ → ℕ → List Logged → Type 0
IsLegal rows room log = IsLegalFrom (empty rows room) log

-- the entries of one caller, in order
abbrev pub entries_of : ℕ → List Logged → List Logged
entries_of who log = filter (λ e. e.who == who) log

abbrev pub claims_by : ℕ → List Claim → List Claim
claims_by who claims = filter (λ c. c.who == who) claims

-- the claims of one caller that stand after the log
abbrev pub claims_of : ℕ → List Logged → List Claim
claims_of who log = claims_by who (fold claims_after [] log)
