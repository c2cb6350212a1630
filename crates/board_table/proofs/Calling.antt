-- What a call that won the turn makes of its seat, and what it answers.
use Rattle.std.proofs.Common.{◌≡◌, ℕ, ◌≤◌, ◌==◌, inl, inr, true, false, cond, List, [], ◌∷◌, ◌++◌, ap, sym, refl}
use Rattle.std.proofs.Common.{subst, ◌∙◌, eqb-true, arith}
use Rattle.std.specs.Prelude.{Option, Some, None, IsTrue, IsSomeAnd}
use Rattle.std.specs.List.{list_any}
use Rattle.interval_kit.specs.declared.piece.Piece.{Piece}
use Rattle.board_core.specs.declared.event.Logged.{Logged}
use Rattle.board_core.specs.declared.taken.Claim.{Claim}
use Rattle.board_core.specs.declared.taken.Taken.{Taken}
use Rattle.board_core.specs.declared.taken.CoreOffered.{CoreOffered}
use Rattle.board_core.specs.declared.taken.CoreOffered.TheVariants as offered
use Rattle.board_core.specs.declared.taken.CoreClaimed.{CoreClaimed}
use Rattle.board_core.specs.declared.taken.CoreClaimed.TheVariants as claimed
use Rattle.board_core.specs.Ordered.{Each}
use Rattle.board_core.specs.Board.{PlainBoard, offer_entry, claim_entry, settle_entry, put_back_entry, claim_of}
use Rattle.board_core.specs.Board.{put_claim, without_claim, is_same, IsClaim}
use Rattle.board_core.specs.Calls.{Call, IsStep, Offers, Claims, IsLowestPair, offer, claim, settle, put_back}
use Rattle.board_core.specs.Replay.{Bare, replay, IsLegal, entries_of, claims_by, claims_of}
use Rattle.board_core.specs.Sound.{bare, blank, blank_offered, blank_claimed, IsSound, Brings}
use Rattle.board_core.proofs.PieceLemmas.{each_open, open_put}
use Rattle.board_core.proofs.LogLemmas.{legal_length, open_by, by_put_own, by_without_own}
use Rattle.board_core.proofs.BareLemmas.{offers_bare, claims_bare}
use Rattle.board_core.proofs.MeaningLemmas.{claims_plainly}
use Rattle.board_core.proofs.Keeps.{step_sound, step_keeps, sound_claims}
use Rattle.board_table.specs.Seen.{SeatSeen}
use Rattle.board_table.specs.Changes.{IsBoardOf, HasWon, MayGoHome, Grows, won_seat, done_seat}
use Rattle.board_table.specs.Answers.{StandsIn, IsWithin, Wins, Adds, Leaves, OfferKept, OfferOverlaps, OfferFull}
use Rattle.board_table.specs.Answers.{ClaimPair, ClaimRefused, Ends}
use Rattle.board_table.proofs.Beginnings.{starts_trans, grows_starts, entries_own}

-- the claims of one number are its own
each_own : (who : ℕ) (claims : List Claim) → Each (λ (c : Claim). c.who ≡ who) (claims_by who claims)
each_own who [] = tt
each_own who (c ∷ cs) =
    (elim (c.who == who)
    as (λ t. (c.who == who) ≡ t
    → Each (λ (d : Claim). d.who ≡ who) (cond t (c ∷ claims_by who cs) (claims_by who cs))) [
      | true ↦ λ own. (eqb-true c.who who own, each_own who cs)
      | false ↦ λ other. each_own who cs
    ])
    refl

module _ {W : Type 0} where
  abbrev pub caller : Call W → ℕ
  caller (offer who p answer) = who
  caller (claim who answer) = who
  caller (settle t value) = t.who
  caller (put_back t) = t.who

  -- no call changes the rows and the room
  same_size : (b : PlainBoard W) (call : Call W) (d : PlainBoard W) → IsStep b call d
      → (d.rows ≡ b.rows) × (d.room ≡ b.room)
  same_size b (offer who p offered.Kept) d step =
      (ap (λ (m : PlainBoard W). m.rows) step.2.2, ap (λ (m : PlainBoard W). m.room) step.2.2)
  same_size b (offer who p (offered.Overlaps q)) d step =
      (ap (λ (m : PlainBoard W). m.rows) step.2.2, ap (λ (m : PlainBoard W). m.room) step.2.2)
  same_size b (offer who p (offered.Full q)) d step =
      (ap (λ (m : PlainBoard W). m.rows) step.2.3, ap (λ (m : PlainBoard W). m.room) step.2.3)
  same_size b (claim who (claimed.Pair t)) d step =
      (ap (λ (m : PlainBoard W). m.rows) step.3, ap (λ (m : PlainBoard W). m.room) step.3)
  same_size b (claim who claimed.NoPair) d step =
      (ap (λ (m : PlainBoard W). m.rows) step.1, ap (λ (m : PlainBoard W). m.room) step.1)
  same_size b (claim who claimed.Full) d step =
      (ap (λ (m : PlainBoard W). m.rows) step.3, ap (λ (m : PlainBoard W). m.room) step.3)
  same_size b (settle t value) d step =
      (ap (λ (m : PlainBoard W). m.rows) step.1, ap (λ (m : PlainBoard W). m.room) step.1)
  same_size b (put_back t) d step = (ap (λ (m : PlainBoard W). m.rows) step.1, ap (λ (m : PlainBoard W). m.room) step.1)

  -- a call adds at most one entry, of its caller's number
  step_grows : (b : PlainBoard W) (call : Call W) (d : PlainBoard W) → IsStep b call d → Grows (caller call) b.log d.log
  step_grows b (offer who p offered.Kept) d step = inr
      (offer_entry who p, refl, ap (λ (m : PlainBoard W). m.log) step.2.2)
  step_grows b (offer who p (offered.Overlaps q)) d step = inl (ap (λ (m : PlainBoard W). m.log) step.2.2)
  step_grows b (offer who p (offered.Full q)) d step = inl (ap (λ (m : PlainBoard W). m.log) step.2.3)
  step_grows b (claim who (claimed.Pair t)) d step = inr
      (claim_entry t.who t, step.0, ap (λ (m : PlainBoard W). m.log) step.3)
  step_grows b (claim who claimed.NoPair) d step = inl (ap (λ (m : PlainBoard W). m.log) step.1)
  step_grows b (claim who claimed.Full) d step = inl (ap (λ (m : PlainBoard W). m.log) step.3)
  step_grows b (settle t value) d step = inr (settle_entry t, refl, ap (λ (m : PlainBoard W). m.log) step.1)
  step_grows b (put_back t) d step = inr (put_back_entry t, refl, ap (λ (m : PlainBoard W). m.log) step.1)

module _ {F W : Type 0} (rows : F → ℕ) (stands : F → ℕ → ℕ → W → Type 0) where
  room_of : (plan : Option F) (room : ℕ) (b : PlainBoard W) → IsBoardOf rows stands plan room b → b.room ≡ room
  room_of None room b fits = absurd fits
  room_of (Some plan) room b fits = fits.room_is

  sound_of : (plan : Option F) (room : ℕ) (b : PlainBoard W) → IsBoardOf rows stands plan room b → IsSound b
  sound_of None room b fits = absurd fits
  sound_of (Some plan) room b fits = fits.sound.sound

  -- what a call brings stands in the seat's plan
  abbrev pub BringsFor : Option F → Call W → Type 0
  BringsFor None call = ⊥
  BringsFor (Some plan) call = Brings (stands plan) call

  still_of : (plan : Option F) (room : ℕ) (b d : PlainBoard W) (call : Call W) → IsBoardOf rows stands plan room b
      → BringsFor plan call → IsStep b call d
      → IsBoardOf rows stands plan room d
  still_of None room b d call fits brings step = absurd fits
  still_of (Some plan) room b d call fits brings step = record {
    sound = step_keeps (stands plan) b call d fits.sound brings step;
    rows_are = (same_size b call d step).0 ∙ fits.rows_are;
    room_is = (same_size b call d step).1 ∙ fits.room_is;
  }

  pub brings_claim : (plan : Option F) (room : ℕ) (b : PlainBoard W) (who : ℕ) (answer : CoreClaimed W)
      → IsBoardOf rows stands plan room b → BringsFor plan (claim who answer)
  brings_claim None room b who answer fits = absurd fits
  brings_claim (Some plan) room b who answer fits = tt

  pub brings_offer : (plan : Option F) (who : ℕ) (p : Piece W) (answer : CoreOffered W)
      → StandsIn stands plan p.lo p.hi p.value → BringsFor plan (offer who p answer)
  brings_offer None who p answer value_stands = absurd value_stands
  brings_offer (Some plan) who p answer value_stands = value_stands

  pub brings_settle : (plan : Option F) (t : Taken W) (value : W)
      → IsSomeAnd plan (λ plan. stands plan t.left.lo t.right.hi value) → BringsFor plan (settle t value)
  brings_settle None t value value_stands = absurd value_stands
  brings_settle (Some plan) t value value_stands = value_stands

  pub brings_put_back : (plan : Option F) (t : Taken W)
      → IsSomeAnd plan (λ plan. stands plan t.left.lo t.left.hi t.left.value)
      → IsSomeAnd plan (λ plan. stands plan t.right.lo t.right.hi t.right.value) → BringsFor plan (put_back t)
  brings_put_back None t left right = absurd left
  brings_put_back (Some plan) t left right = (left, right)

  pub within_board : (plan : Option F) (room : ℕ) (b : PlainBoard W) (row : ℕ) → IsBoardOf rows stands plan room b
      → IsWithin rows plan row → row ≤ b.rows
  within_board None room b row fits within = absurd fits
  within_board (Some plan) room b row fits within = let low : row ≤ rows plan = within in let same = fits.rows_are in
      omega arith

  module _ (old mid : SeatSeen F) (b : PlainBoard W) (won : HasWon rows stands old b mid) where
    sound : IsSound b
    sound = sound_of old.plan old.room b won.of_seat

    module _ (call : Call W) (d : PlainBoard W) (step : IsStep b call d) where
      abbrev pub after : SeatSeen F
      after = done_seat (won_seat old b.log) d.log

      pub goes_home : BringsFor old.plan call → caller call ≡ old.number → MayGoHome rows stands mid d
      goes_home brings own = subst (λ (s : SeatSeen F). MayGoHome rows stands s d) (sym won.seat) (record {
        holds = refl;
        of_seat = still_of old.plan old.room b d call won.of_seat brings step;
        grows = subst (λ (n : ℕ). Grows n b.log d.log) own (step_grows b call d step);
      })

      pub is_after : (new : SeatSeen F) → new ≡ done_seat mid d.log → after ≡ new
      is_after new is = sym (is ∙ ap (λ (s : SeatSeen F). done_seat s d.log) won.seat)

      sound_after : IsSound d
      sound_after = step_sound b sound call d step

      rows_after : d.rows ≡ old.rows
      rows_after = (same_size b call d step).0 ∙ won.rows_are

      room_after : d.room ≡ old.room
      room_after = (same_size b call d step).1 ∙ room_of old.plan old.room b won.of_seat

      legal_after : IsLegal old.rows old.room d.log
      legal_after = subst (λ (r : ℕ). IsLegal r old.room d.log) rows_after
          (subst (λ (m : ℕ). IsLegal d.rows m d.log) room_after sound_after.legal)

      wins : Wins old b.log after
      wins = record {
        won = refl;
        missed = refl;
        found_later = won.later;
        seen_later = starts_trans d.log b.log old.seen
            (grows_starts (caller call) b.log d.log (step_grows b call d step)) won.later;
        legal = legal_after;
        length = legal_length old.rows old.room d.log legal_after;
        mine = refl;
        taken = refl;
      }

      bare_before : bare b ≡ replay old.rows old.room b.log
      bare_before = sound.replayed ∙ ap (λ r. replay r b.room b.log) won.rows_are
          ∙ ap (λ m. replay old.rows m b.log) (room_of old.plan old.room b won.of_seat)

      bare_after : bare d ≡ replay old.rows old.room d.log
      bare_after = sound_after.replayed ∙ ap (λ r. replay r d.room d.log) rows_after
          ∙ ap (λ m. replay old.rows m d.log) room_after

      adds : (e : Logged) → e.who ≡ old.number → d.log ≡ b.log ++ e ∷ [] → Adds old b.log e after
      adds e own more = record {
        seen = more;
        mine = ap (entries_of old.number) more ∙ entries_own old.number b.log e own ∙ ap (λ xs. xs ++ e ∷ []) won.mine;
      }

      leaves : d ≡ b → Leaves old b.log after
      leaves same = record {
        seen = ap (λ (m : PlainBoard W). m.log) same;
        mine = ap (λ (m : PlainBoard W). entries_of old.number m.log) same ∙ won.mine;
        taken = ap (λ (m : PlainBoard W). claims_of old.number m.log) same ∙ won.taken;
      }

      -- the claims of the seat on the two boards
      own_before : claims_by old.number b.claims ≡ old.taken
      own_before = sound_claims old.number b sound ∙ won.taken

      own_after : (claims : List Claim) → d.claims ≡ claims → after.taken ≡ claims_by old.number claims
      own_after claims same = sym (sound_claims old.number d sound_after) ∙ ap (λ cs. claims_by old.number cs) same

    offer_bare : (p : Piece W) (answer : CoreOffered W) (d : PlainBoard W)
        → (step : IsStep b (offer old.number p answer) d)
        → Offers (replay old.rows old.room b.log) old.number (blank p) (blank_offered answer)
        (replay old.rows old.room d.log)
    offer_bare p answer d step =
        let P : Bare → Type 0 = λ m. Offers m old.number (blank p) (blank_offered answer)
        (replay old.rows old.room d.log) in
        let Q : Bare → Type 0 = λ m. Offers (bare b) old.number (blank p) (blank_offered answer) m in
        subst P (bare_before (offer old.number p answer) d step)
        (subst Q (bare_after (offer old.number p answer) d step) (offers_bare b old.number d p answer step.2))

    pub offer_kept : (p : Piece W) (d : PlainBoard W) → (step : IsStep b (offer old.number p offered.Kept) d)
        → OfferKept old p (after (offer old.number p offered.Kept) d step)
    offer_kept p d step =
        let call = offer old.number p offered.Kept in
        record {
          found = b.log;
          wins = wins call d step;
          step = offer_bare p offered.Kept d step;
          adds = adds call d step (offer_entry old.number p) refl (ap (λ (m : PlainBoard W). m.log) step.2.2);
          taken = own_after call d step b.claims (ap (λ (m : PlainBoard W). m.claims) step.2.2)
              ∙ own_before call d step;
        }

    pub offer_overlaps : (p q : Piece W) (d : PlainBoard W)
        → (step : IsStep b (offer old.number p (offered.Overlaps q)) d)
        → OfferOverlaps old p q (after (offer old.number p (offered.Overlaps q)) d step)
    offer_overlaps p q d step =
        let call = offer old.number p (offered.Overlaps q) in
        record {
          handed_back = step.2.1;
          found = b.log;
          wins = wins call d step;
          step = subst (λ (r : Piece W). Offers (replay old.rows old.room b.log) old.number (blank p)
              (offered.Overlaps (blank r)) (replay old.rows old.room d.log)) step.2.1
              (offer_bare p (offered.Overlaps q) d step);
          leaves = leaves call d step step.2.2;
        }

    pub offer_full : (p q : Piece W) (d : PlainBoard W) → (step : IsStep b (offer old.number p (offered.Full q)) d)
        → OfferFull old p q (after (offer old.number p (offered.Full q)) d step)
    offer_full p q d step =
        let call = offer old.number p (offered.Full q) in
        record {
          handed_back = step.2.2;
          found = b.log;
          wins = wins call d step;
          step = subst (λ (r : Piece W). Offers (replay old.rows old.room b.log) old.number (blank p)
              (offered.Full (blank r)) (replay old.rows old.room d.log)) step.2.2
              (offer_bare p (offered.Full q) d step);
          leaves = leaves call d step step.2.3;
        }

    claim_bare : (answer : CoreClaimed W) (d : PlainBoard W) → (step : IsStep b (claim old.number answer) d)
        → Claims (replay old.rows old.room b.log) old.number (blank_claimed answer) (replay old.rows old.room d.log)
    claim_bare answer d step =
        let P : Bare → Type 0 = λ m. Claims m old.number (blank_claimed answer) (replay old.rows old.room d.log) in
        let Q : Bare → Type 0 = λ m. Claims (bare b) old.number (blank_claimed answer) m in
        subst P (bare_before (claim old.number answer) d step)
        (subst Q (bare_after (claim old.number answer) d step) (claims_bare b old.number d answer step))

    pub claim_pair : (t : Taken W) (d : PlainBoard W) → (step : IsStep b (claim old.number (claimed.Pair t)) d)
        → ClaimPair old t (after (claim old.number (claimed.Pair t)) d step)
    claim_pair t d step =
        let call = claim old.number (claimed.Pair t) in
        let taken : claims_of old.number d.log ≡ put_claim (claim_of t) old.taken =
        own_after call d step (put_claim (claim_of t) b.claims) (ap (λ (m : PlainBoard W). m.claims) step.3)
        ∙ by_put_own old.number (claim_of t) b.claims step.0 sound.tidy.claims_rise
        ∙ ap (λ cs. put_claim (claim_of t) cs) (own_before call d step) in
        let plainly : IsLowestPair b t × IsClaim t d.claims = claims_plainly b old.number (claimed.Pair t) d sound
        step in
        record {
          found = b.log;
          wins = wins call d step;
          own = step.0;
          step = claim_bare (claimed.Pair t) d step;
          adds = adds call d step (claim_entry old.number t) refl
              (ap (λ (m : PlainBoard W). m.log) step.3 ∙ ap (λ n. b.log ++ claim_entry n t ∷ []) step.0);
          taken = taken;
          is_claim = (
            plainly.0.adjoins,
            subst (λ (cs : List Claim). IsTrue (list_any (λ c. is_same c (claim_of t)) cs)) (sym taken)
                (open_put (claim_of t) old.taken),
          );
        }

    refused : (answer : CoreClaimed W) (d : PlainBoard W) → (step : IsStep b (claim old.number answer) d) → d ≡ b
        → ClaimRefused old (blank_claimed answer) (after (claim old.number answer) d step)
    refused answer d step same =
        let call = claim old.number answer in
        record {
          found = b.log;
          wins = wins call d step;
          step = subst (λ (log : List Logged). Claims (replay old.rows old.room log) old.number
              (blank_claimed answer) (replay old.rows old.room d.log))
              (ap (λ (m : PlainBoard W). m.log) (sym same)) (claim_bare answer d step);
          leaves = leaves call d step same;
        }

    pub claim_none : (d : PlainBoard W) → (step : IsStep b (claim old.number claimed.NoPair) d)
        → ClaimRefused old claimed.NoPair (after (claim old.number claimed.NoPair) d step)
    claim_none d step = refused claimed.NoPair d step step.1

    pub claim_full : (d : PlainBoard W) → (step : IsStep b (claim old.number claimed.Full) d)
        → ClaimRefused old claimed.Full (after (claim old.number claimed.Full) d step)
    claim_full d step = refused claimed.Full d step step.3

    -- a claim of the seat's is on the board, and has its number
    pub on_board : (t : Taken W) → IsClaim t old.taken → IsClaim t b.claims
    on_board t is_claim =
        let own : claims_by old.number b.claims ≡ old.taken = sound_claims old.number b sound ∙ won.taken in (
          is_claim.0,
          open_by old.number (claim_of t) b.claims
              (subst (λ (cs : List Claim). IsTrue (list_any (λ c. is_same c (claim_of t)) cs)) (sym own) is_claim.1),
        )

    pub own_claim : (t : Taken W) → IsClaim t old.taken → t.who ≡ old.number
    own_claim t is_claim =
        let own : claims_by old.number b.claims ≡ old.taken = sound_claims old.number b sound ∙ won.taken in
        each_open (claim_of t) (claims_by old.number b.claims)
        (subst (λ (cs : List Claim). IsTrue (list_any (λ c. is_same c (claim_of t)) cs)) (sym own) is_claim.1)
        (λ (c : Claim). c.who ≡ old.number) (each_own old.number b.claims)

    ends : (t : Taken W) (call : Call W) (d : PlainBoard W) (e : Logged) → (step : IsStep b call d)
        → IsClaim t old.taken → e.who ≡ t.who
        → d.log ≡ b.log ++ e ∷ [] → d.claims ≡ without_claim (claim_of t) b.claims → Ends old t e (after call d step)
    ends t call d e step is_claim who more gone = record {
      found = b.log;
      wins = wins call d step;
      own = own_claim t is_claim;
      adds = adds call d step e (who ∙ own_claim t is_claim) more;
      taken = own_after call d step (without_claim (claim_of t) b.claims) gone
          ∙ by_without_own old.number (claim_of t) b.claims (own_claim t is_claim)
          ∙ ap (λ cs. without_claim (claim_of t) cs) (own_before call d step);
    }

    pub settled : (t : Taken W) (value : W) (d : PlainBoard W) → (step : IsStep b (settle t value) d)
        → IsClaim t old.taken
        → Ends old t (settle_entry t) (after (settle t value) d step)
    settled t value d step is_claim =
        ends t (settle t value) d (settle_entry t) step is_claim refl (ap (λ (m : PlainBoard W). m.log) step.1)
        (ap (λ (m : PlainBoard W). m.claims) step.1)

    pub was_put_back : (t : Taken W) (d : PlainBoard W) → (step : IsStep b (put_back t) d) → IsClaim t old.taken
        → Ends old t (put_back_entry t) (after (put_back t) d step)
    was_put_back t d step is_claim =
        ends t (put_back t) d (put_back_entry t) step is_claim refl (ap (λ (m : PlainBoard W). m.log) step.1)
        (ap (λ (m : PlainBoard W). m.claims) step.1)
