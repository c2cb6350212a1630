-- The account of a worker, turn by turn, and how it stops.
use Rattle.std.proofs.Common.{◌≡◌, ◌≢◌, ℕ, ◌+◌, ◌-◌, ◌<◌, ◌≤◌, Bool, true, false, cond, List, [], ◌∷◌, ◌++◌, length}
use Rattle.std.proofs.Common.{get_or, refl, ap, sym, subst, ◌∙◌, arith, append-nil, append_assoc, length-append, ◌⊎◌}
use Rattle.std.proofs.Common.{inl, inr, ⊎_elim}
use Rattle.std.specs.Prelude.{Option, Some, ◌↔◌, count_by}
use Rattle.std.specs.List.{All, Contains}
use Rattle.std.proofs.lemmas.List.{get_or_append_left}
use Rattle.std.proofs.Math.Seq.{get_or-append_right}
use Rattle.std.proofs.lemmas.List.Sums.{sum_by-append, sum_by-le}
use Rattle.std.proofs.lemmas.List.Elements.{All-nil, All-cons, Contains-append_left, Contains-append_right}
use Rattle.interval_kit.specs.declared.piece.Piece.{Piece}
use Rattle.board_core.specs.declared.event.Logged.{Logged}
use Rattle.board_core.specs.declared.taken.Claim.{Claim}
use Rattle.board_core.specs.Board.{piece_at, claim_of}
use Rattle.steal_deal.specs.declared.view.View.{View}
use Rattle.board_table.specs.Seen.{SeatSeen, IsSameSeat}
use Rattle.board_table.specs.Answers.{StandsIn, IsPair}
use Rattle.worker_pool.specs.declared.pocket.Pocket.{Pocket}
use Rattle.worker_pool.specs.declared.pocket.Pocket.TheVariants.{Empty, Offer, Settle, Return}
use Rattle.worker_pool.specs.declared.turn.Turn.{Turn}
use Rattle.worker_pool.specs.declared.site.Worker.{Worker}
use Rattle.worker_pool.specs.declared.working.WorkEnd.{WorkEnd}
use Rattle.worker_pool.specs.declared.working.WorkEnd.TheVariants as ending
use Rattle.worker_pool.specs.Walk.{IsGood}
use Rattle.worker_pool.specs.Pockets.{pieces_in, HasOffer, IsStanding, IsInHand}
use Rattle.worker_pool.specs.Turns.{is_pair, is_put_back, HasKept, left_by, misses, loses}
use Rattle.worker_pool.specs.Sites.{IsDelivered, TakesTurn}
use Rattle.worker_pool.specs.Workers.{HasPiece, IsOnOffer, IsHeld, IsAccounted, WorkAccount, WorkEnds, lost}
use Rattle.worker_pool.specs.Stops.{Stops}
use Rattle.worker_pool.proofs.Bounds.{below_or_not}

only_one : (c d : Claim) → Contains (d ∷ []) c → d ≡ c
only_one c d (k, within, there) =
    let first : k ≡ 0 = omega arith in
    subst (λ n. get_or (d ∷ []) n c ≡ c) first there

none_in : (c : Claim) → Contains [] c → ⊥
none_in c (k, within, there) = absurd (omega arith)

module _ {W : Type 0} where
  first_has : (p : Piece W) (ps : List (Piece W)) (lo hi : ℕ) → p.lo ≡ lo → p.hi ≡ hi → HasPiece (p ∷ ps) lo hi
  first_has p ps lo hi from to = (p, (0, omega arith, refl), from, to)

  second_has : (p q : Piece W) (lo hi : ℕ) → q.lo ≡ lo → q.hi ≡ hi → HasPiece (p ∷ q ∷ []) lo hi
  second_has p q lo hi from to = (q, (1, omega arith, refl), from, to)

  module _ {F : Type 0} (rows : F → ℕ) (stands : F → ℕ → ℕ → W → Type 0) where
    claims_held : (seat : SeatSeen F) (pocket : Pocket W) → IsInHand rows stands seat pocket → (c : Claim)
        → Contains seat.taken c → IsHeld (pieces_in pocket) c
    claims_held seat Empty in_hand c has = absurd (none_in c (subst (λ cs. Contains cs c) in_hand has))
    claims_held seat (Offer p) in_hand c has = absurd (none_in c (subst (λ cs. Contains cs c) in_hand.0 has))
    claims_held seat (Settle t value) in_hand c has =
        subst (λ d. IsHeld (pieces_in (Settle t value)) d)
        (only_one c (claim_of t) (subst (λ cs. Contains cs c) in_hand.0 has))
        (inr (first_has (piece_at t.left.lo t.right.hi value) [] t.left.lo t.right.hi refl refl))
    claims_held seat (Return t) in_hand c has =
        subst (λ d. IsHeld (pieces_in (Return t)) d)
        (only_one c (claim_of t) (subst (λ cs. Contains cs c) in_hand.0 has))
        (inl (
          first_has t.left (t.right ∷ []) t.left.lo t.left.hi refl refl,
          second_has t.left t.right t.left.hi
              t.right.hi (sym in_hand.1.adjoin) refl,
        ))

    pub all_good : (plan : F) (seat : SeatSeen F) (pocket : Pocket W) → seat.plan ≡ Some plan
        → IsInHand rows stands seat pocket
        → All (IsGood (rows plan) (stands plan)) (pieces_in pocket)
    all_good plan seat Empty is in_hand = All-nil (IsGood (rows plan) (stands plan))
    all_good plan seat (Offer p) is in_hand =
        let stand = subst (λ (pl : Option F). IsStanding rows stands pl p) is in_hand.1 in
        All-cons (IsGood (rows plan) (stands plan)) p []
        (record { nonempty = stand.nonempty; within = stand.within; value_stands = stand.value_stands })
        (All-nil (IsGood (rows plan) (stands plan)))
    all_good plan seat (Settle t value) is in_hand =
        let pair = subst (λ (pl : Option F). IsPair rows stands pl t) is in_hand.1 in
        let stand = subst (λ (pl : Option F). StandsIn stands pl t.left.lo t.right.hi value) is in_hand.2 in
        All-cons (IsGood (rows plan) (stands plan)) (piece_at t.left.lo t.right.hi value) []
        (record {
          nonempty = omega (arith, pair.left_nonempty, pair.adjoin, pair.right_nonempty);
          within =
              pair.within;
          value_stands = stand;
        })
        (All-nil (IsGood (rows plan) (stands plan)))
    all_good plan seat (Return t) is in_hand =
        let pair = subst (λ (pl : Option F). IsPair rows stands pl t) is in_hand.1 in
        let ends : t.right.hi ≤ rows plan = pair.within in
        All-cons (IsGood (rows plan) (stands plan)) t.left (t.right ∷ [])
        (record {
          nonempty = pair.left_nonempty;
          within = omega (arith, ends, pair.adjoin, pair.right_nonempty);
          value_stands = pair.left_stands;
        })
        (All-cons (IsGood (rows plan) (stands plan)) t.right []
        (record { nonempty = pair.right_nonempty; within = pair.within; value_stands = pair.right_stands })
        (All-nil (IsGood (rows plan) (stands plan))))

    -- the leaf that is still to be offered, seen by the pieces in hand
    is_on_offer : (seat : SeatSeen F) (pocket : Pocket W) → IsInHand rows stands seat pocket → (lo hi : ℕ)
        → HasOffer pocket lo hi
        → IsOnOffer seat.taken (pieces_in pocket) lo hi
    is_on_offer seat Empty in_hand lo hi has = absurd has
    is_on_offer seat (Offer p) in_hand lo hi has = (in_hand.0, (p, refl, has.0, has.1))
    is_on_offer seat (Settle t value) in_hand lo hi has = absurd has
    is_on_offer seat (Return t) in_hand lo hi has = absurd has

    has_offer : (seat : SeatSeen F) (pocket : Pocket W) → IsInHand rows stands seat pocket → (lo hi : ℕ)
        → IsOnOffer seat.taken (pieces_in pocket) lo hi
        → HasOffer pocket lo hi
    has_offer seat Empty in_hand lo hi (none, (p, is, from, to)) = let e : [] ≡ p ∷ [] = is in absurd cc
    has_offer seat (Offer q) in_hand lo hi (none, (p, is, from, to)) =
        let same : q ≡ p = ap (λ (ps : List (Piece W)). get_or ps 0 q) is in
        (ap (λ (r : Piece W). r.lo) same ∙ from, ap (λ (r : Piece W). r.hi) same ∙ to)
    has_offer seat (Settle t value) in_hand lo hi (none, some) = let e : [] ≡ claim_of t ∷ [] = sym none
        ∙ in_hand.0 in absurd cc
    has_offer seat (Return t) in_hand lo hi (none, some) = let e : [] ≡ claim_of t ∷ [] = sym none
        ∙ in_hand.0 in absurd cc

module _ {F W : Type 0} (rows : F → ℕ) (stands : F → ℕ → ℕ → W → Type 0) (cut : List ℕ) (old : SeatSeen F) where
  -- how far a worker has come, with this in hand
  pub record Working (pocket : Pocket W) (missed : ℕ) (worker : Worker F W) : Type 0 where
    pub account : WorkAccount cut old worker.seat worker.hand.view (pieces_in pocket) worker.pairs 0
    pub in_hand : IsInHand rows stands worker.seat pocket
    pub missed_are : worker.seat.missed ≡ old.missed + missed
    pub won : old.won ≤ worker.seat.won

  pub begins : (worker : Worker F W) → old ≡ worker.seat → worker.seat.taken ≡ [] → worker.hand.view.taken ≡ []
      → worker.pairs ≡ 0 → Working Empty 0 worker
  begins worker same claims none no_pair = record {
    account = record {
      gained = [];
      mine = ap (λ (s : SeatSeen F). s.mine) (sym same) ∙ sym (append-nil old.mine);
      pairs_are = sym no_pair;
      few_backs = omega arith;
      leaves = λ k within. absurd (omega (arith, ap (λ ys. length ys) none));
      claims = λ c has. absurd (none_in c (subst (λ cs. Contains cs c) claims has));
    };
    in_hand = claims;
    missed_are = omega (arith, ap (λ (s : SeatSeen F). s.missed) same);
    won = omega (arith, ap (λ (s : SeatSeen F). s.won) same);
  }

  module _ (mid new : Worker F W) (held : Pocket W) (missed : ℕ) (answer : Turn W) (before : Working held missed mid)
      (number : new.seat.number ≡ mid.seat.number) (turn : TakesTurn rows stands cut mid held answer new) where
    abbrev gained : List Logged
    gained = before.account.gained ++ turn.ends.makes.gained

    -- what the turn delivered
    delivered : (y : ℕ) → IsDelivered cut turn.ends.makes.gained new.seat.number (left_by answer) y
        → IsAccounted cut gained new.seat (pieces_in (left_by answer)) y
    delivered y is =
        let lo = get_or cut y 0 in
        let hi = get_or cut (y + 1) 0 in
        ⊎_elim
        (λ (kept : HasKept turn.ends.makes.gained new.seat.number lo hi). inl
        (Contains-append_right before.account.gained turn.ends.makes.gained _ kept))
        (λ (has : HasOffer (left_by answer) lo hi). inr
        (is_on_offer rows stands new.seat (left_by answer) turn.ends.makes.in_hand lo hi has))
        is

    -- a leaf that was accounted for still is
    still : (k : ℕ) → k < length mid.hand.view.taken
        → IsAccounted cut gained new.seat (pieces_in (left_by answer)) (get_or mid.hand.view.taken k 0)
    still k within =
        let y = get_or mid.hand.view.taken k 0 in
        let lo = get_or cut y 0 in
        let hi = get_or cut (y + 1) 0 in
        ⊎_elim
        (λ (kept : HasKept before.account.gained mid.seat.number lo hi).
        inl (Contains-append_left before.account.gained turn.ends.makes.gained _
        (subst (λ who. HasKept before.account.gained who lo hi) (sym number) kept)))
        (λ (offer : IsOnOffer mid.seat.taken (pieces_in held) lo hi).
        delivered y (turn.ends.makes.offers lo hi (has_offer rows stands mid.seat held before.in_hand lo hi offer)))
        (before.account.leaves k (omega arith))

    accounted : (k : ℕ) → k + loses answer < length (mid.hand.view.taken ++ turn.leaves)
        → IsAccounted cut gained new.seat (pieces_in (left_by answer)) (get_or (mid.hand.view.taken ++ turn.leaves) k 0)
    accounted k within = ⊎_elim
        (λ (below : k < length mid.hand.view.taken).
        subst (λ y. IsAccounted cut gained new.seat (pieces_in (left_by answer)) y)
        (sym (get_or_append_left mid.hand.view.taken turn.leaves 0 k below)) (still k below))
        (λ (above : length mid.hand.view.taken ≤ k).
        let place = k - length mid.hand.view.taken in
        subst (λ y. IsAccounted cut gained new.seat (pieces_in (left_by answer)) y)
        (sym (get_or-append_right mid.hand.view.taken turn.leaves k 0 above))
        (delivered (get_or turn.leaves place 0)
        (turn.delivered place (omega (arith, length-append mid.hand.view.taken turn.leaves)))))
        (below_or_not k (length mid.hand.view.taken))

    pub account_after : (more : ℕ) → loses answer ≤ more
        → WorkAccount cut old new.seat new.hand.view (pieces_in (left_by answer)) new.pairs more
    account_after more enough = record {
      gained = gained;
      mine = turn.ends.makes.mine ∙ ap (λ es. es ++ turn.ends.makes.gained) before.account.mine
          ∙ append_assoc old.mine before.account.gained turn.ends.makes.gained;
      pairs_are = omega (
        arith,
        sum_by-append (λ e. cond (is_pair e) 1 0) before.account.gained turn.ends.makes.gained,
        before.account.pairs_are,
        turn.ends.makes.pairs_are,
        turn.pairs_are,
      );
      few_backs = omega (
        arith,
        sum_by-append (λ e. cond (is_put_back e) 1 0) before.account.gained turn.ends.makes.gained,
        before.account.few_backs,
        turn.ends.makes.few_backs,
      );
      leaves = λ k within.
          subst (λ ys. IsAccounted cut gained new.seat (pieces_in (left_by answer)) (get_or ys k 0)) (sym turn.taken)
          (accounted k (omega (arith, ap (λ ys. length ys) turn.taken)));
      claims = claims_held rows stands new.seat (left_by answer) turn.ends.makes.in_hand;
    }

    -- a turn that loses nothing
    pub goes_on : (missed' : ℕ) → missed + misses answer ≡ missed' → loses answer ≡ 0
        → Working (left_by answer) missed' new
    goes_on missed' misses_are none_lost = record {
      account = account_after 0 (omega arith);
      in_hand = turn.ends.makes.in_hand;
      missed_are = omega (arith, before.missed_are, turn.ends.makes.missed_are);
      won = omega (arith, before.won, turn.ends.makes.won);
    }

    -- a turn that ends the worker
    pub stops : (end : WorkEnd) → loses answer ≤ lost end
        → WorkEnds old new.seat new.hand.view (pieces_in (left_by answer)) end
        → (end ≡ ending.Idle) ↔ (missed + misses answer ≡ 1000000) → Stops rows stands cut old (left_by answer) end new
    stops end enough ends idle = record {
      account = account_after (lost end) enough;
      ends = ends;
      idle = (
        (λ is. omega (arith, idle.0 is, before.missed_are, turn.ends.makes.missed_are)),
        (λ is. idle.1 (omega (arith, before.missed_are, turn.ends.makes.missed_are))),
      );
      in_hand = turn.ends.makes.in_hand;
    }

    -- a pair that could not be put back is two pieces in hand
    pub stops_unreturned : (end : WorkEnd) → loses answer ≡ 0 → misses answer ≡ 1
        → ((end ≡ ending.Idle) × (missed + 1 ≡ 1000000)) ⊎ ((end ≡ ending.Memory) × (missed + 1 ≢ 1000000))
        → Stops rows stands cut old (left_by answer) end new
    stops_unreturned end none_lost one_missed cause = ⊎_elim
        (λ (idle : (end ≡ ending.Idle) × (missed + 1 ≡ 1000000)).
        subst (λ e. Stops rows stands cut old (left_by answer) e new) (sym idle.0)
        (stops ending.Idle (omega arith) tt (λ is. omega arith, λ is. refl)))
        (λ (memory : (end ≡ ending.Memory) × (missed + 1 ≢ 1000000)).
        subst (λ e. Stops rows stands cut old (left_by answer) e new) (sym memory.0)
        (stops ending.Memory (omega arith) tt (λ is. absurd (cc), λ is. absurd (memory.1 (omega arith)))))
        cause

few_of : (test : Logged → Bool) (es : List Logged) → count_by test es ≤ length es
few_of test es =
    let each : (e : Logged) → cond (test e) 1 0 ≤ 1 = λ e. one_at_most (test e) in
    omega (arith, sum_by-le (λ e. cond (test e) 1 0) 1 es (λ k d within. each (get_or es k d)))
  where
    one_at_most : (t : Bool) → cond t 1 0 ≤ 1
    one_at_most true = omega arith
    one_at_most false = omega arith

-- the pairs of an account are among the seat's entries
pub pairs_within : {F W : Type 0} (cut : List ℕ) (old new : SeatSeen F) (hand : View) (pocket : List (Piece W))
    (pairs lost : ℕ)
    → WorkAccount cut old new hand pocket pairs lost → pairs ≤ length new.mine
pairs_within cut old new hand pocket pairs lost account =
    let grown : length new.mine ≡ length old.mine + length account.gained = ap (λ es. length es) account.mine
    ∙ length-append old.mine account.gained in
    omega (arith, few_of is_pair account.gained, account.pairs_are)

pub same_seat_on : {F : Type 0} (a b c : SeatSeen F) → IsSameSeat a b → IsSameSeat b c → IsSameSeat a c
same_seat_on a b c first second = record {
  table = second.table ∙ first.table;
  plan = second.plan ∙ first.plan;
  rows = second.rows ∙ first.rows;
  room = second.room ∙ first.room;
  callers = second.callers ∙ first.callers;
  number = second.number ∙ first.number;
  spare = second.spare ∙ first.spare;
}

pub same_seat : {F : Type 0} (a : SeatSeen F) → IsSameSeat a a
same_seat a = record {
  table = refl;
  plan = refl;
  rows = refl;
  room = refl;
  callers = refl;
  number = refl;
  spare =
      refl;
}

-- a worker that has no room for a pocket
module _ {F W : Type 0} (cut : List ℕ) (old : SeatSeen F) (hand : View) where
  pub no_room : old.taken ≡ [] → hand.taken ≡ [] → WorkAccount {W = W} cut old old hand [] 0 (lost ending.Memory)
  no_room claims none = record {
    gained = [];
    mine = sym (append-nil old.mine);
    pairs_are = refl;
    few_backs = omega arith;
    leaves = λ k within. absurd (omega (arith, ap (λ ys. length ys) none));
    claims = λ c has. absurd (none_in c (subst (λ cs. Contains cs c) claims has));
  }
