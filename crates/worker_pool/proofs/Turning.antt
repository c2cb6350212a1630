-- What each answer of the board makes of a turn.
use Rattle.std.proofs.Common.{◌≡◌, ℕ, ◌+◌, ◌<◌, ◌≤◌, ◌==◌, true, false, cond, List, [], ◌∷◌, ◌++◌, length, refl, ap}
use Rattle.std.proofs.Common.{sym, subst, ◌∙◌, arith, append-nil, append_assoc, length-append, inl, inr, ◌^◌}
use Rattle.std.specs.Prelude.{count_by}
use Rattle.std.proofs.lemmas.Bool.Decides.{nat_tests}
use Rattle.std.proofs.lemmas.List.Sums.{sum_by-append}
use Rattle.interval_kit.specs.declared.piece.Piece.{Piece}
use Rattle.board_core.specs.declared.event.Logged.{Logged}
use Rattle.board_core.specs.declared.taken.Claim.{Claim}
use Rattle.board_core.specs.declared.taken.Taken.{Taken}
use Rattle.board_core.specs.declared.taken.CoreOffered.TheVariants as on_offer
use Rattle.board_core.specs.Board.{piece_at, claim_of, is_same, without_claim, offer_entry, claim_entry, settle_entry}
use Rattle.board_core.specs.Board.{put_back_entry}
use Rattle.board_core.specs.declared.taken.CoreClaimed.TheVariants as on_claim
use Rattle.board_core.specs.Replay.{entries_of}
use Rattle.board_core.specs.Calls.{Offers}
use Rattle.board_core.specs.Sound.{blank}
use Rattle.board_table.specs.Seen.{SeatSeen, IsSameSeat}
use Rattle.board_table.specs.Changes.{Misses}
use Rattle.board_table.specs.Answers.{replay_at, StandsIn, IsPair, Wins, Adds, OfferKept, OfferOverlaps, OfferFull}
use Rattle.board_table.specs.Answers.{ClaimPair, ClaimRefused, Ends}
use Rattle.board_table.proofs.Beginnings.{starts_length}
use Rattle.worker_pool.specs.declared.pocket.Pocket.{Pocket}
use Rattle.worker_pool.specs.declared.pocket.Pocket.TheVariants.{Empty, Offer, Settle, Return}
use Rattle.worker_pool.specs.declared.turn.Turn.{Turn}
use Rattle.worker_pool.specs.declared.turn.Turn.TheVariants.{Went, Missed, Refused, Drained, Memory, Unreturned}
use Rattle.worker_pool.specs.Pockets.{IsStanding, IsInHand}
use Rattle.worker_pool.specs.Turns.{is_pair, is_put_back, Tells, TurnMakes, TurnEnds, LeafEnds, misses}

-- a claim that ends leaves none
pub none_without : (c : Claim) → without_claim c (c ∷ []) ≡ []
none_without c =
    let who : (c.who == c.who) ≡ true = grind (arith, nat_tests) in
    let lo : (c.lo == c.lo) ≡ true = grind (arith, nat_tests) in
    let mid : (c.mid == c.mid) ≡ true = grind (arith, nat_tests) in
    let hi : (c.hi == c.hi) ≡ true = grind (arith, nat_tests) in
    let same : is_same c c ≡ true = rw (who, lo, mid, hi) refl in
    ap (λ t. cond t [] (c ∷ [])) same

module _ {F : Type 0} (old new : SeatSeen F) where
  -- a call that made an entry sees a longer log
  pub longer_seen : (found : List Logged) → Wins old found new → (e : Logged) → Adds old found e new
      → length old.seen < length new.seen
  longer_seen found wins e adds =
      let grown : length new.seen ≡ length found + 1 = ap (λ es. length es) adds.seen ∙ length-append found (e ∷ []) in
      omega (arith, starts_length found old.seen wins.found_later)

module _ {F W : Type 0} (rows : F → ℕ) (stands : F → ℕ → ℕ → W → Type 0) (old new : SeatSeen F) where
  -- the seat gained nothing, and the same is in hand
  pub kept_in_hand : (before : Pocket W) (backs missed : ℕ) → new.mine ≡ old.mine → new.missed ≡ old.missed + missed
      → old.won ≤ new.won
      → length old.seen ≤ length new.seen → IsInHand rows stands new before
      → TurnMakes rows stands old before before 0 backs missed new
  kept_in_hand before backs missed mine is won seen in_hand = record {
    gained = [];
    mine = mine ∙ sym (append-nil old.mine);
    pairs_are = refl;
    few_backs = omega arith;
    missed_are = is;
    won = won;
    seen = seen;
    offers = λ lo hi has. inr has;
    in_hand = in_hand;
  }

  -- the board was missed, and the same is in hand
  pub missed_with : (before : Pocket W) → Misses old new → IsInHand rows stands new before
      → TurnMakes rows stands old before before 0 0 1 new
  missed_with before misses in_hand =
      kept_in_hand before 0 1 (ap (λ (s : SeatSeen F). s.mine) misses) (ap (λ (s : SeatSeen F). s.missed) misses)
      (omega (arith, ap (λ (s : SeatSeen F). s.won) misses))
      (omega (arith, ap (λ (s : SeatSeen F). length s.seen) misses)) in_hand

  module _ (same : IsSameSeat old new) where
    standing_still : (p : Piece W) → IsStanding rows stands old.plan p → IsStanding rows stands new.plan p
    standing_still p stand = subst (λ plan. IsStanding rows stands plan p) (sym same.plan) stand

    pub pair_still : (t : Taken W) → IsPair rows stands old.plan t → IsPair rows stands new.plan t
    pair_still t pair = subst (λ plan. IsPair rows stands plan t) (sym same.plan) pair

    pub offer_kept : (p : Piece W) → OfferKept old p new → old.taken ≡ []
        → TurnEnds rows stands old (Offer p) 0 Went new
    offer_kept p answer none = record {
      makes = record {
        gained = offer_entry new.number p ∷ [];
        mine = answer.adds.mine;
        pairs_are = refl;
        few_backs = (let none_back : count_by is_put_back (offer_entry new.number p ∷ []) ≡ 0 = refl in omega arith);
        missed_are = omega (arith, answer.wins.missed);
        won = omega (arith, answer.wins.won);
        seen = starts_length new.seen old.seen answer.wins.seen_later;
        offers = λ lo hi has. inl (
          0,
          omega arith,
          ap (λ from. offer_entry new.number (piece_at from p.hi p.value)) has.0
              ∙ ap (λ to. offer_entry new.number (piece_at lo to p.value)) has.1,
        );
        in_hand = answer.taken ∙ none;
      };
      tells = (longer_seen old new answer.found answer.wins (offer_entry new.number p) answer.adds, answer.wins.length);
    }

    pub offer_missed : (p q : Piece W) → (q ≡ p) × Misses old new → old.taken ≡ [] → IsStanding rows stands old.plan p
        → TurnEnds rows stands old (Offer p) 0 (Missed (Offer q)) new
    offer_missed p q answer none stand =
        subst (λ r. TurnEnds rows stands old (Offer p) 0 (Missed (Offer r)) new) (sym answer.0)
        (record {
          makes = missed_with (Offer p) answer.1
              (ap (λ (s : SeatSeen F). s.taken) answer.1 ∙ none, standing_still p stand);
          tells = tt;
        })

    pub refused_overlaps : (p q : Piece W) → OfferOverlaps old p q new → old.taken ≡ []
        → IsStanding rows stands old.plan p
        → TurnEnds rows stands old (Offer p) 0 (Refused q) new
    refused_overlaps p q answer none stand =
        let step = subst (λ log. Offers (replay_at new log) new.number (blank p) (on_offer.Overlaps (blank p))
        (replay_at new new.seen)) (sym answer.leaves.seen) answer.step in
        subst (λ r. TurnEnds rows stands old (Offer p) 0 (Refused r) new) (sym answer.handed_back) (record {
          makes = kept_in_hand (Offer p) 0 0 answer.leaves.mine (omega (arith, answer.wins.missed))
              (omega (arith, answer.wins.won))
              (starts_length new.seen old.seen answer.wins.seen_later)
              (answer.leaves.taken ∙ none, standing_still p stand);
          tells = inl step;
        })

    pub refused_full : (p q : Piece W) → OfferFull old p q new → old.taken ≡ [] → IsStanding rows stands old.plan p
        → TurnEnds rows stands old (Offer p) 0 (Refused q) new
    refused_full p q answer none stand =
        let step = subst (λ log. Offers (replay_at new log) new.number (blank p) (on_offer.Full (blank p))
        (replay_at new new.seen)) (sym answer.leaves.seen) answer.step in
        subst (λ r. TurnEnds rows stands old (Offer p) 0 (Refused r) new) (sym answer.handed_back) (record {
          makes = kept_in_hand (Offer p) 0 0 answer.leaves.mine (omega (arith, answer.wins.missed))
              (omega (arith, answer.wins.won))
              (starts_length new.seen old.seen answer.wins.seen_later)
              (answer.leaves.taken ∙ none, standing_still p stand);
          tells = inr step;
        })

  pub pair_settled : (t : Taken W) (value : W) → Ends old t (settle_entry t) new → old.taken ≡ claim_of t ∷ []
      → TurnEnds rows stands old (Settle t value) 0 Went new
  pair_settled t value answer claim = record {
    makes = record {
      gained = settle_entry t ∷ [];
      mine = answer.adds.mine;
      pairs_are = refl;
      few_backs = (let none_back : count_by is_put_back (settle_entry t ∷ []) ≡ 0 = refl in omega arith);
      missed_are = omega (arith, answer.wins.missed);
      won = omega (arith, answer.wins.won);
      seen = starts_length new.seen old.seen answer.wins.seen_later;
      offers = λ lo hi has. absurd has;
      in_hand = answer.taken ∙ ap (λ claims. without_claim (claim_of t) claims) claim ∙ none_without (claim_of t);
    };
    tells = (longer_seen old new answer.found answer.wins (settle_entry t) answer.adds, answer.wins.length);
  }

  pub pair_was_back : (t : Taken W) → Ends old t (put_back_entry t) new → old.taken ≡ claim_of t ∷ []
      → TurnEnds rows stands old (Return t) 0 Memory new
  pair_was_back t answer claim = record {
    makes = record {
      gained = put_back_entry t ∷ [];
      mine = answer.adds.mine;
      pairs_are = refl;
      few_backs = (let one_back : count_by is_put_back (put_back_entry t ∷ []) ≡ 1 = refl in omega arith);
      missed_are = omega (arith, answer.wins.missed);
      won = omega (arith, answer.wins.won);
      seen = starts_length new.seen old.seen answer.wins.seen_later;
      offers = λ lo hi has. absurd has;
      in_hand = answer.taken ∙ ap (λ claims. without_claim (claim_of t) claims) claim ∙ none_without (claim_of t);
    };
    tells = tt;
  }

  pub missed_pair : (t u : Taken W) (value v : W) → (u ≡ t) × (v ≡ value) × Misses old new
      → old.taken ≡ claim_of t ∷ [] → IsPair rows stands old.plan t
      → StandsIn stands old.plan t.left.lo t.right.hi value
      → TurnEnds rows stands old (Settle t value) 0 (Missed (Settle u v)) new
  missed_pair t u value v answer claim pair stand =
      let same : new.plan ≡ old.plan = ap (λ (s : SeatSeen F). s.plan) answer.2 in
      subst (λ s. TurnEnds rows stands old (Settle t value) 0 (Missed (Settle s v)) new) (sym answer.0)
      (subst (λ x. TurnEnds rows stands old (Settle t value) 0 (Missed (Settle t x)) new) (sym answer.1) (record {
        makes = missed_with (Settle t value) answer.2 (
          ap (λ (s : SeatSeen F). s.taken) answer.2 ∙ claim,
          subst (λ plan. IsPair rows stands plan t) (sym same) pair,
          subst (λ plan. StandsIn stands plan t.left.lo t.right.hi value) (sym same) stand,
        );
        tells = tt;
      }))

  pub missed_back : (t u : Taken W) → (u ≡ t) × Misses old new → old.taken ≡ claim_of t ∷ []
      → IsPair rows stands old.plan t
      → TurnEnds rows stands old (Return t) 0 (Unreturned u) new
  missed_back t u answer claim pair =
      let same : new.plan ≡ old.plan = ap (λ (s : SeatSeen F). s.plan) answer.1 in
      subst (λ s. TurnEnds rows stands old (Return t) 0 (Unreturned s) new) (sym answer.0) (record {
        makes = missed_with (Return t) answer.1 (
          ap (λ (s : SeatSeen F). s.taken) answer.1 ∙ claim,
          subst (λ plan. IsPair rows stands plan t) (sym same) pair,
        );
        tells = tt;
      })

  -- no leaf is on offer in a pair
  pub settled_for_returned : (t : Taken W) (value : W) (answer : Turn W)
      → TurnEnds rows stands old (Settle t value) 0 answer new
      → TurnEnds rows stands old (Return t) 0 answer new
  settled_for_returned t value answer turn = record {
    makes = record {
      gained = turn.makes.gained;
      mine = turn.makes.mine;
      pairs_are = turn.makes.pairs_are;
      few_backs = turn.makes.few_backs;
      missed_are = turn.makes.missed_are;
      won = turn.makes.won;
      seen = turn.makes.seen;
      offers = λ lo hi has. absurd has;
      in_hand = turn.makes.in_hand;
    };
    tells = turn.tells;
  }

  pub leaf_offered : (p : Piece W) (answer : Turn W) → TurnEnds rows stands old (Offer p) 0 answer new
      → LeafEnds rows stands old p.lo p.hi answer new
  leaf_offered p answer turn = record {
    ends = record {
      makes = record {
        gained = turn.makes.gained;
        mine = turn.makes.mine;
        pairs_are = turn.makes.pairs_are;
        few_backs = turn.makes.few_backs;
        missed_are = turn.makes.missed_are;
        won = turn.makes.won;
        seen = turn.makes.seen;
        offers = λ lo hi has. absurd has;
        in_hand = turn.makes.in_hand;
      };
      tells = turn.tells;
    };
    accounted = λ none. turn.makes.offers p.lo p.hi (refl, refl);
  }

  pub no_pair_left : ClaimRefused old on_claim.NoPair new → old.taken ≡ []
      → TurnEnds {W = W} rows stands old Empty 0 Drained new
  no_pair_left answer none = record {
    makes = kept_in_hand Empty 0 0 answer.leaves.mine (omega (arith, answer.wins.missed))
        (omega (arith, answer.wins.won))
        (starts_length new.seen old.seen answer.wins.seen_later) (answer.leaves.taken ∙ none);
    tells = (omega (arith, answer.wins.won), inl answer.step);
  }

  pub no_room_left : ClaimRefused old on_claim.Full new → old.taken ≡ []
      → TurnEnds {W = W} rows stands old Empty 0 Drained new
  no_room_left answer none = record {
    makes = kept_in_hand Empty 0 0 answer.leaves.mine (omega (arith, answer.wins.missed))
        (omega (arith, answer.wins.won))
        (starts_length new.seen old.seen answer.wins.seen_later) (answer.leaves.taken ∙ none);
    tells = (omega (arith, answer.wins.won), inr answer.step);
  }

  pub claim_missed : Misses old new → old.taken ≡ [] → TurnEnds {W = W} rows stands old Empty 0 (Missed Empty) new
  claim_missed misses none = record
      { makes = missed_with Empty misses (ap (λ (s : SeatSeen F). s.taken) misses ∙ none); tells = tt }

module _ {F W : Type 0} (rows : F → ℕ) (stands : F → ℕ → ℕ → W → Type 0) where
  pub no_memory_for_leaf : (old : SeatSeen F) (lo hi : ℕ) → old.taken ≡ [] → LeafEnds rows stands old lo hi Memory old
  no_memory_for_leaf old lo hi none = record {
    ends = record {
      makes = kept_in_hand rows stands old old Empty 1 0 refl (omega arith) (omega arith) (omega arith)
          none;
      tells = tt;
    };
    accounted = λ kept. absurd (omega arith);
  }

  module _ (old mid new : SeatSeen F) (t : Taken W) (claimed : ClaimPair old t mid)
      (number : new.number ≡ mid.number) where
    tells_more : (answer : Turn W) → Tells mid answer new → Tells old answer new
    tells_more Went tells = (omega (arith, starts_length mid.seen old.seen claimed.wins.seen_later, tells.0), tells.1)
    tells_more (Missed pocket) tells = tells
    tells_more (Refused p) tells = tells
    tells_more Drained tells = (omega (arith, claimed.wins.won, tells.0), tells.1)
    tells_more Memory tells = tells
    tells_more (Unreturned u) tells = tells

    -- a pair was claimed, and then settled or put back
    pub pair_then : (answer : Turn W) → TurnEnds rows stands mid (Return t) 0 answer new
        → TurnEnds rows stands old Empty 1 answer new
    pair_then answer turn = record {
      makes = record {
        gained = claim_entry mid.number t ∷ turn.makes.gained;
        mine = turn.makes.mine ∙ ap (λ es. es ++ turn.makes.gained) claimed.adds.mine
            ∙ append_assoc old.mine (claim_entry mid.number t ∷ []) turn.makes.gained;
        pairs_are = (let one : count_by is_pair (claim_entry mid.number t ∷ []) ≡ 1 = refl in
            omega (
              arith,
              sum_by-append (λ e. cond (is_pair e) 1 0) (claim_entry mid.number t ∷ [])
                  turn.makes.gained,
              turn.makes.pairs_are,
            ));
        few_backs = (let none : count_by is_put_back (claim_entry mid.number t ∷ []) ≡ 0 = refl in
            omega (
              arith,
              sum_by-append (λ e. cond (is_put_back e) 1 0) (claim_entry mid.number t ∷ [])
                  turn.makes.gained,
              turn.makes.few_backs,
            ));
        missed_are = omega (arith, claimed.wins.missed, turn.makes.missed_are);
        won = omega (arith, claimed.wins.won, turn.makes.won);
        seen = omega (arith, starts_length mid.seen old.seen claimed.wins.seen_later, turn.makes.seen);
        offers = λ lo hi has. absurd has;
        in_hand = turn.makes.in_hand;
      };
      tells = tells_more answer turn.tells;
    }

-- the entries of one caller are no more than all
pub entries_within : (who : ℕ) (log : List Logged) → length (entries_of who log) ≤ length log
entries_within who [] = omega arith
entries_within who (e ∷ es) =
    let rest = entries_within who es in
    elim (e.who == who) as (λ t. length (cond t (e ∷ entries_of who es) (entries_of who es)) ≤ length (e ∷ es))
    [ true ↦ omega arith | false ↦ omega arith ]

pub one_pair_more : {F W : Type 0} (old mid : SeatSeen F) (t : Taken W) (pairs : ℕ) → ClaimPair old t mid
    → mid.room < 2 ^ 32 → pairs ≤ length old.mine → pairs + 1 < 2 ^ 32
one_pair_more old mid t pairs answer small counted =
    let grown : length mid.mine ≡ length old.mine + 1 = ap (λ es. length es) answer.adds.mine
    ∙ length-append old.mine (claim_entry mid.number t ∷ []) in
    let own : length (entries_of mid.number mid.seen) ≡ length mid.mine = ap (λ es. length es) answer.wins.mine in
    omega (arith, entries_within mid.number mid.seen, answer.wins.length)
