-- What each call answers, and the board after it.
use Rattle.std.specs.Prelude.{◌≡◌, ◌≢◌, ℕ, ◌<◌, ◌≤◌, true, false, List, [], ◌∷◌, Option, Some, None}
use Rattle.interval_kit.specs.declared.piece.Piece.{Piece}
use Rattle.board_core.specs.declared.event.Logged.{Logged}
use Rattle.board_core.specs.declared.taken.Taken.{Taken}
use Rattle.board_core.specs.declared.taken.CoreOffered.{CoreOffered}
use Rattle.board_core.specs.declared.taken.CoreOffered.TheVariants as offered
use Rattle.board_core.specs.declared.taken.CoreClaimed.{CoreClaimed}
use Rattle.board_core.specs.declared.taken.CoreClaimed.TheVariants as claimed
use Rattle.board_core.specs.Ordered.{Each}
use Rattle.board_core.specs.Board.{PlainBoard, offer_entry, claim_entry, settle_entry, put_back_entry, free, is_clear}
use Rattle.board_core.specs.Board.{first_pair, IsClaim, with_offer, with_claim, with_settle, with_put_back}

module _ {W : Type 0} where
  -- an offer of p by `who` to the board b gives this answer and the board d
  abbrev pub Offers : PlainBoard W → ℕ → Piece W → CoreOffered W → PlainBoard W → Type 0
  Offers b who p offered.Kept d =
      (is_clear p.lo p.hi b ≡ true) × (1 ≤ free b) × (d ≡ with_offer b who p)
  Offers b who p (offered.Overlaps q) d = (is_clear p.lo p.hi b ≡ false) × (q ≡ p) × (d ≡ b)
  Offers b who p (offered.Full q) d =
      (is_clear p.lo p.hi b ≡ true) × (free b ≡ 0) × (q ≡ p) × (d ≡ b)

  -- a claim by `who` on the board b gives this answer and the board d
  abbrev pub Claims : PlainBoard W → ℕ → CoreClaimed W → PlainBoard W → Type 0
  Claims b who (claimed.Pair t) d =
      (t.who ≡ who) × (first_pair b.held ≡ Some (t.left, t.right)) × (2 ≤ free b)
      × (d ≡ with_claim b t)
  Claims b who claimed.NoPair d = (first_pair b.held ≡ None) × (d ≡ b)
  Claims b who claimed.Full d =
      (pair : Piece W × Piece W) × (first_pair b.held ≡ Some pair) × (free b < 2) × (d ≡ b)

  -- the intervals of the pair are nonempty, adjoin and lie within the rows,
  -- and no two held pieces that adjoin begin lower
  pub record IsLowestPair (b : PlainBoard W) (t : Taken W) : Type 0 where
    pub left_nonempty : t.left.lo < t.left.hi
    pub adjoins : t.left.hi ≡ t.right.lo
    pub right_nonempty : t.right.lo < t.right.hi
    pub within : t.right.hi ≤ b.rows
    pub lowest : Each (λ p. Each (λ q. p.hi ≡ q.lo → t.left.lo ≤ p.lo) b.held) b.held

  -- what a claim on the board b, after which it is d, answers in plain words
  abbrev pub AnswersPlainly : PlainBoard W → CoreClaimed W → PlainBoard W → Type 0
  AnswersPlainly b (claimed.Pair t) d = IsLowestPair b t × IsClaim t d.claims
  AnswersPlainly b claimed.NoPair d = Each (λ p. Each (λ q. p.hi ≢ q.lo) b.held) b.held
  AnswersPlainly b claimed.Full d = Unit {0}

-- a call, with what it was given and what it answered
pub data Call (W : Type 0) : Type 0 where
  offer : ℕ → Piece W → CoreOffered W → Call W
  claim : ℕ → CoreClaimed W → Call W
  settle : Taken W → W → Call W
  put_back : Taken W → Call W

module _ {W : Type 0} where
  -- the call is allowed on the board b, and turns it into the board d
  abbrev pub IsStep : PlainBoard W → Call W → PlainBoard W → Type 0
  IsStep b (offer who p answer) d = (p.lo < p.hi) × (p.hi ≤ b.rows) × Offers b who p answer d
  IsStep b (claim who answer) d = Claims b who answer d
  IsStep b (settle t value) d = IsClaim t b.claims × (d ≡ with_settle b t value)
  IsStep b (put_back t) d = IsClaim t b.claims × (d ≡ with_put_back b t)

  -- the entry that a call makes: only one that changes the board makes one
  abbrev pub entry_made : Call W → Option Logged
  entry_made (offer who p offered.Kept) = Some (offer_entry who p)
  entry_made (claim who (claimed.Pair t)) = Some (claim_entry who t)
  entry_made (settle t value) = Some (settle_entry t)
  entry_made (put_back t) = Some (put_back_entry t)
  entry_made call = None

  -- the calls, one after the other, turn the board b into the board d
  abbrev pub Lead : PlainBoard W → List (Call W) → PlainBoard W → Type 0
  Lead b [] d = d ≡ b
  Lead b (call ∷ calls) d = (next : PlainBoard W) × IsStep b call next × Lead next calls d

-- a board and a request determine the answer and the board after it
pub record IsDetermined (W : Type 0) : Type 0 where
  pub to_offers : (b : PlainBoard W) (who : ℕ) (p : Piece W) (x y : CoreOffered W)
      (d m : PlainBoard W) → Offers b who p x d → Offers b who p y m → (x ≡ y) × (d ≡ m)
  pub to_claims : (b : PlainBoard W) (who : ℕ) (x y : CoreClaimed W) (d m : PlainBoard W)
      → Claims b who x d → Claims b who y m → (x ≡ y) × (d ≡ m)
