-- The clauses of each call, from what the turn, the pure board and the seat's return say.
use Rattle.std.proofs.Common.{◌≡◌, ℕ, ◌<◌, ◌≤◌, List, length, ap, sym, refl, subst, ◌∙◌, arith}
use Rattle.std.specs.Prelude.{Option, Some, None, IsSomeAnd}
use Rattle.interval_kit.specs.declared.piece.Piece.{Piece}
use Rattle.board_core.specs.declared.event.Logged.{Logged}
use Rattle.board_core.specs.declared.taken.Claim.{Claim}
use Rattle.board_core.specs.declared.taken.Taken.{Taken}
use Rattle.board_core.specs.declared.taken.CoreOffered.{CoreOffered}
use Rattle.board_core.specs.declared.taken.CoreOffered.TheVariants as offered
use Rattle.board_core.specs.declared.taken.CoreClaimed.{CoreClaimed}
use Rattle.board_core.specs.declared.taken.CoreClaimed.TheVariants as claimed
use Rattle.board_core.specs.Board.{PlainBoard, plain, settle_entry, put_back_entry, IsClaim, with_settle, with_put_back}
use Rattle.board_core.specs.Calls.{IsStep, Offers, Claims, IsLowestPair, offer, claim, settle, put_back}
use Rattle.board_core.specs.Sound.{IsSoundFor}
use Rattle.board_core.proofs.MeaningLemmas.{is_lowest}
use Rattle.board_core.proofs.Keeps.{pair_stands, sound_length}
use Rattle.board_table.specs.Seen.{SeatSeen}
use Rattle.board_table.specs.Changes.{IsBoardOf, HasWon, MayGoHome, done_seat}
use Rattle.board_table.specs.Answers.{StandsIn, IsWithin, OfferKept, OfferOverlaps, OfferFull, ClaimPair}
use Rattle.board_table.specs.Answers.{ClaimRefused, Ends, IsPair, Closes}
use Rattle.board_table.proofs.Calling.{brings_claim, brings_offer, brings_settle, brings_put_back, within_board}
use Rattle.board_table.proofs.Calling.{goes_home, is_after, offer_kept, offer_overlaps, offer_full, claim_pair}
use Rattle.board_table.proofs.Calling.{claim_none, claim_full, on_board, own_claim, settled, was_put_back}

module _ {F W : Type 0} (rows : F → ℕ) (stands : F → ℕ → ℕ → W → Type 0) (old mid : SeatSeen F) (b : PlainBoard W)
    (won : HasWon rows stands old b mid) where
  module _ (who : ℕ) (named : who ≡ mid.number) (d : PlainBoard W) where
    own : who ≡ old.number
    own = named ∙ ap (λ (s : SeatSeen F). s.number) won.seat

    module _ (p : Piece W) (nonempty : p.lo < p.hi) (within : IsWithin rows old.plan p.hi)
        (value_stands : StandsIn stands old.plan p.lo p.hi p.value) where
      offer_step : (answer : CoreOffered W) → Offers b who p answer d → IsStep b (offer old.number p answer) d
      offer_step answer step = (
        nonempty,
        within_board rows stands old.plan old.room b p.hi won.of_seat within,
        subst (λ (n : ℕ). Offers b n p answer d) own step,
      )

      pub offer_home : (answer : CoreOffered W) → Offers b who p answer d → MayGoHome rows stands mid d
      offer_home answer step =
          goes_home rows stands old mid b won (offer old.number p answer) d (offer_step answer step)
          (brings_offer rows stands old.plan old.number p answer value_stands) refl

      pub is_kept : (new : SeatSeen F) → new ≡ done_seat mid d.log → Offers b who p offered.Kept d → OfferKept old p new
      is_kept new is step =
          let call = offer_step offered.Kept step in
          subst (λ (s : SeatSeen F). OfferKept old p s)
          (is_after rows stands old mid b won (offer old.number p offered.Kept) d call new is)
          (offer_kept rows stands old mid b won p d call)

      pub is_overlapping : (new : SeatSeen F) → new ≡ done_seat mid d.log → (q : Piece W)
          → Offers b who p (offered.Overlaps q) d → OfferOverlaps old p q new
      is_overlapping new is q step =
          let call = offer_step (offered.Overlaps q) step in
          subst (λ (s : SeatSeen F). OfferOverlaps old p q s)
          (is_after rows stands old mid b won (offer old.number p (offered.Overlaps q)) d call new is)
          (offer_overlaps rows stands old mid b won p q d call)

      pub is_full : (new : SeatSeen F) → new ≡ done_seat mid d.log → (q : Piece W)
          → Offers b who p (offered.Full q) d → OfferFull old p q new
      is_full new is q step =
          let call = offer_step (offered.Full q) step in
          subst (λ (s : SeatSeen F). OfferFull old p q s)
          (is_after rows stands old mid b won (offer old.number p (offered.Full q)) d call new is)
          (offer_full rows stands old mid b won p q d call)

    claim_step : (answer : CoreClaimed W) → Claims b who answer d → IsStep b (claim old.number answer) d
    claim_step answer step = subst (λ (n : ℕ). Claims b n answer d) own step

    pub claim_home : (answer : CoreClaimed W) → Claims b who answer d → MayGoHome rows stands mid d
    claim_home answer step =
        goes_home rows stands old mid b won (claim old.number answer) d (claim_step answer step)
        (brings_claim rows stands old.plan old.room b old.number answer won.of_seat) refl

    pub is_pair : (new : SeatSeen F) → new ≡ done_seat mid d.log → (t : Taken W) → Claims b who (claimed.Pair t) d
        → ClaimPair old t new
    is_pair new is t step =
        let call = claim_step (claimed.Pair t) step in
        subst (λ (s : SeatSeen F). ClaimPair old t s)
        (is_after rows stands old mid b won (claim old.number (claimed.Pair t)) d call new is)
        (claim_pair rows stands old mid b won t d call)

    pub is_no_pair : (new : SeatSeen F) → new ≡ done_seat mid d.log → Claims b who claimed.NoPair d
        → ClaimRefused old claimed.NoPair new
    is_no_pair new is step =
        let call = claim_step claimed.NoPair step in
        subst (λ (s : SeatSeen F). ClaimRefused old claimed.NoPair s)
        (is_after rows stands old mid b won (claim old.number claimed.NoPair) d call new is)
        (claim_none rows stands old mid b won d call)

    pub is_claim_full : (new : SeatSeen F) → new ≡ done_seat mid d.log → Claims b who claimed.Full d
        → ClaimRefused old claimed.Full new
    is_claim_full new is step =
        let call = claim_step claimed.Full step in
        subst (λ (s : SeatSeen F). ClaimRefused old claimed.Full s)
        (is_after rows stands old mid b won (claim old.number claimed.Full) d call new is)
        (claim_full rows stands old mid b won d call)

    pair_of_plan : (plan : Option F) (t : Taken W) → IsBoardOf rows stands plan old.room b
        → Claims b who (claimed.Pair t) d → IsPair rows stands plan t
    pair_of_plan None t fits step = absurd fits
    pair_of_plan (Some plan) t fits step =
        let lowest : IsLowestPair b t = is_lowest b t fits.sound.sound step.1 in
        let both = pair_stands (stands plan) b t fits.sound.stand step.1 in
        record {
          left_stands = both.0;
          right_stands = both.1;
          left_nonempty = lowest.left_nonempty;
          adjoin = lowest.adjoins;
          right_nonempty = lowest.right_nonempty;
          within = (let low = lowest.within in let same = fits.rows_are in omega arith);
        }

    pub both_stand : (t : Taken W) → Claims b who (claimed.Pair t) d → IsPair rows stands old.plan t
    both_stand t step = pair_of_plan old.plan t won.of_seat step

  module _ (t : Taken W) (is_claim : IsClaim t old.taken) (d : PlainBoard W) where
    settle_step : (value : W) → d ≡ with_settle b t value → IsStep b (settle t value) d
    settle_step value step = (on_board rows stands old mid b won t is_claim, step)

    pub settle_home : (value : W) → StandsIn stands old.plan t.left.lo t.right.hi value → d ≡ with_settle b t value
        → MayGoHome rows stands mid d
    settle_home value value_stands step =
        goes_home rows stands old mid b won (settle t value) d (settle_step value step)
        (brings_settle rows stands old.plan t value value_stands)
        (own_claim rows stands old mid b won t is_claim)

    pub is_settled : (value : W) (new : SeatSeen F) → new ≡ done_seat mid d.log → d ≡ with_settle b t value
        → Ends old t (settle_entry t) new
    is_settled value new is step =
        let call = settle_step value step in
        subst (λ (s : SeatSeen F). Ends old t (settle_entry t) s)
        (is_after rows stands old mid b won (settle t value) d call new is)
        (settled rows stands old mid b won t value d call is_claim)

    put_back_step : d ≡ with_put_back b t → IsStep b (put_back t) d
    put_back_step step = (on_board rows stands old mid b won t is_claim, step)

    pub put_back_home : IsSomeAnd old.plan (λ plan. stands plan t.left.lo t.left.hi t.left.value)
        → IsSomeAnd old.plan (λ plan. stands plan t.right.lo t.right.hi t.right.value)
        → d ≡ with_put_back b t → MayGoHome rows stands mid d
    put_back_home left right step =
        goes_home rows stands old mid b won (put_back t) d (put_back_step step)
        (brings_put_back rows stands old.plan t left right)
        (own_claim rows stands old mid b won t is_claim)

    pub is_put_back : (new : SeatSeen F) → new ≡ done_seat mid d.log → d ≡ with_put_back b t
        → Ends old t (put_back_entry t) new
    is_put_back new is step =
        let call = put_back_step step in
        subst (λ (s : SeatSeen F). Ends old t (put_back_entry t) s)
        (is_after rows stands old mid b won (put_back t) d call new is)
        (was_put_back rows stands old mid b won t d call is_claim)

  board_of_plan : (plan : Option F) → IsBoardOf rows stands plan old.room b
      → IsSomeAnd plan (λ plan. IsSoundFor (stands plan) (plain (rows plan) old.room b.held b.claims b.log))
  board_of_plan None fits = absurd fits
  board_of_plan (Some plan) fits =
      subst (λ (r : ℕ). IsSoundFor (stands plan) (plain r old.room b.held b.claims b.log)) fits.rows_are
      (subst (λ (m : ℕ). IsSoundFor (stands plan) (plain b.rows m b.held b.claims b.log)) fits.room_is fits.sound)

  room_kept : (plan : Option F) → IsBoardOf rows stands plan old.room b → length b.log ≤ old.room
  room_kept None fits = absurd fits
  room_kept (Some plan) fits = let short = sound_length b fits.sound.sound in let same = fits.room_is in omega arith

  pub closes : (held : List (Piece W)) (claims : List Claim) (log : List Logged) → held ≡ b.held → claims ≡ b.claims
      → log ≡ b.log
      → Closes rows stands old mid held claims log
  closes held claims log one two three =
      subst (λ (xs : List (Piece W)). Closes rows stands old mid xs claims log) (sym one)
      (subst (λ (cs : List Claim). Closes rows stands old mid b.held cs log) (sym two)
      (subst (λ (l : List Logged). Closes rows stands old mid b.held b.claims l) (sym three) (record {
        seat = won.seat;
        later = won.later;
        mine = won.mine;
        taken = won.taken;
        board = board_of_plan old.plan won.of_seat;
        length = room_kept old.plan won.of_seat;
      })))
