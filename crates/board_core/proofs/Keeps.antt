-- Every call keeps a sound board sound, and so does every list of calls.
-- What a board shared by several callers needs of this stands at the end.
use Rattle.std.proofs.Common.{◌≡◌, ℕ, ◌<◌, ◌≤◌, ◌∙◌, true, false, List, [], ◌∷◌, ◌++◌, length, ap, sym, refl, subst}
use Rattle.std.proofs.Common.{arith}
use Rattle.std.specs.Prelude.{Some, None, MatchOption}
use Rattle.interval_kit.specs.declared.piece.Piece.{Piece}
use Rattle.board_core.specs.declared.event.Logged.{Logged}
use Rattle.board_core.specs.declared.taken.Claim.{Claim}
use Rattle.board_core.specs.declared.taken.Taken.{Taken}
use Rattle.board_core.specs.declared.taken.CoreOffered.{CoreOffered}
use Rattle.board_core.specs.declared.taken.CoreOffered.TheVariants as offered
use Rattle.board_core.specs.declared.taken.CoreClaimed.{CoreClaimed}
use Rattle.board_core.specs.declared.taken.CoreClaimed.TheVariants as claimed
use Rattle.board_core.specs.Ordered.{Each}
use Rattle.board_core.specs.Board.{offer_entry, claim_entry, settle_entry, put_back_entry, PlainBoard, empty, noted}
use Rattle.board_core.specs.Board.{free, is_clear, first_pair, IsClaim, piece_at, pair_of, put_piece, put_claim}
use Rattle.board_core.specs.Board.{claim_of, without_claim, without_pair, with_offer, with_claim, with_settle}
use Rattle.board_core.specs.Board.{with_put_back}
use Rattle.board_core.specs.Calls.{Call, IsStep, Lead, Offers, Claims, IsDetermined, entry_made, offer, claim, settle}
use Rattle.board_core.specs.Calls.{put_back}
use Rattle.board_core.specs.Replay.{Bare, gap, after, MayFollow, claims_by, claims_of}
use Rattle.board_core.specs.Sound.{bare, IsTidy, IsSound, IsSoundFor, HasStanding, Brings, EveryBoardIsSound}
use Rattle.board_core.proofs.OrderedLemmas.{each_put}
use Rattle.board_core.proofs.PieceLemmas.{both, left_is, right_is, pair_adjoins, each_pair, each_without_pair}
use Rattle.board_core.proofs.TidyLemmas.{tidy_offer, tidy_claim, tidy_settle, tidy_put_back}
use Rattle.board_core.proofs.LogLemmas.{legal_push, replay_push, replay_claims}
use Rattle.board_core.proofs.BareLemmas.{clear_blank, pair_blank, bare_offer, bare_claim, bare_settle, bare_put_back}

abbrev both_gaps : ℕ → ℕ → ℕ → ℕ → Piece (Unit {0}) × Piece (Unit {0})
both_gaps lo mid from hi = (gap lo mid, gap from hi)

module _ {W : Type 0} where
  pub sound_empty : (rows room : ℕ) → IsSound {W = W} (empty rows room)
  sound_empty rows room = record {
    tidy = record {
      held_within = tt;
      claims_within = tt;
      held_rises = tt;
      claims_rise = tt;
      covered = λ row. refl;
      once = λ row. omega arith;
      fits = omega arith;
    };
    legal = tt;
    replayed = refl;
  }

  module _ (b : PlainBoard W) (sound : IsSound b) where
    sound_noted : (held : List (Piece W)) (claims : List Claim) (e : Logged) → IsTidy (noted b held claims e)
        → MayFollow (bare b) e → bare (noted b held claims e) ≡ after (bare b) e → IsSound (noted b held claims e)
    sound_noted held claims e tidy follows same =
        let P : Bare → Type 0 = λ m. MayFollow m e in
        record {
          tidy = tidy;
          legal = legal_push (empty b.rows b.room) b.log e sound.legal (subst P sound.replayed follows);
          replayed = same ∙ ap (λ m. after m e) sound.replayed ∙ sym (replay_push b.rows b.room b.log e);
        }

    pub sound_offer : (who : ℕ) (p : Piece W) → p.lo < p.hi → p.hi ≤ b.rows → is_clear p.lo p.hi b ≡ true → 1 ≤ free b
        → IsSound (with_offer b who p)
    sound_offer who p nonempty within clear room =
        sound_noted (put_piece p b.held) b.claims (offer_entry who p)
        (tidy_offer b sound.tidy who p nonempty within clear room)
        (nonempty, within, (clear_blank p.lo p.hi b ∙ clear, room, refl))
        (bare_offer b who p)

    pub sound_claim : (t : Taken W) → first_pair b.held ≡ Some (t.left, t.right) → 2 ≤ free b → IsSound (with_claim b t)
    sound_claim t found room =
        sound_noted (without_pair b.held) (put_claim (claim_of t) b.claims) (claim_entry t.who t)
        (tidy_claim b sound.tidy t found room) (
          refl,
          pair_blank b.held t.left t.right found
              ∙ ap (λ from. Some (both_gaps t.left.lo t.left.hi from t.right.hi))
              (sym (pair_adjoins b.held t.left t.right found)),
          room,
          refl,
        )
        (bare_claim b t)

    pub sound_settle : (t : Taken W) (value : W) → IsClaim t b.claims → IsSound (with_settle b t value)
    sound_settle t value is_claim =
        sound_noted (put_piece (piece_at t.left.lo t.right.hi value) b.held) (without_claim (claim_of t) b.claims)
        (settle_entry t)
        (tidy_settle b sound.tidy t is_claim value)
        ((refl, is_claim.1), refl)
        (bare_settle b t value)

    pub sound_put_back : (t : Taken W) → IsClaim t b.claims → IsSound (with_put_back b t)
    sound_put_back t is_claim =
        sound_noted (put_piece t.left (put_piece t.right b.held)) (without_claim (claim_of t) b.claims)
        (put_back_entry t)
        (tidy_put_back b sound.tidy t is_claim)
        ((refl, is_claim.1), refl)
        (bare_put_back b t is_claim.0)

    moved : (d m : PlainBoard W) → d ≡ m → IsSound m → IsSound d
    moved d m same held = let P : PlainBoard W → Type 0 = λ x. IsSound x in subst P (sym same) held

    pub offers_sound : (who : ℕ) (p : Piece W) (answer : CoreOffered W) (d : PlainBoard W) → p.lo < p.hi → p.hi ≤ b.rows
        → Offers b who p answer d → IsSound d
    offers_sound who p offered.Kept d nonempty within step = moved d (with_offer b who p) step.2
        (sound_offer who p nonempty within step.0 step.1)
    offers_sound who p (offered.Overlaps q) d nonempty within step = moved d b step.2 sound
    offers_sound who p (offered.Full q) d nonempty within step = moved d b step.3 sound

    pub claims_sound : (who : ℕ) (answer : CoreClaimed W) (d : PlainBoard W) → Claims b who answer d → IsSound d
    claims_sound who (claimed.Pair t) d step = moved d (with_claim b t) step.3 (sound_claim t step.1 step.2)
    claims_sound who claimed.NoPair d step = moved d b step.1 sound
    claims_sound who claimed.Full d step = moved d b step.3 sound

    pub step_sound : (call : Call W) (d : PlainBoard W) → IsStep b call d → IsSound d
    step_sound (offer who p answer) d step = offers_sound who p answer d step.0 step.1 step.2
    step_sound (claim who answer) d step = claims_sound who answer d step
    step_sound (settle t value) d step = moved d (with_settle b t value) step.1 (sound_settle t value step.0)
    step_sound (put_back t) d step = moved d (with_put_back b t) step.1 (sound_put_back t step.0)

  -- a call without an entry leaves the board as it was, and any other adds its entry to the log
  pub step_entry : (b : PlainBoard W) (call : Call W) (d : PlainBoard W) → IsStep b call d
      → MatchOption (entry_made call) (d ≡ b) (λ e. d.log ≡ b.log ++ e ∷ [])
  step_entry b (offer who p offered.Kept) d step = ap (λ (m : PlainBoard W). m.log) step.2.2
  step_entry b (offer who p (offered.Overlaps q)) d step = step.2.2
  step_entry b (offer who p (offered.Full q)) d step = step.2.3
  step_entry b (claim who (claimed.Pair t)) d step =
      ap (λ (m : PlainBoard W). m.log) step.3
      ∙ ap (λ n. b.log ++ claim_entry n t ∷ []) step.0
  step_entry b (claim who claimed.NoPair) d step = step.1
  step_entry b (claim who claimed.Full) d step = step.3
  step_entry b (settle t value) d step = ap (λ (m : PlainBoard W). m.log) step.1
  step_entry b (put_back t) d step = ap (λ (m : PlainBoard W). m.log) step.1

  -- a call has one answer and one board
  pub offers_one : (b : PlainBoard W) (who : ℕ) (p : Piece W) (x y : CoreOffered W) (d m : PlainBoard W)
      → Offers b who p x d → Offers b who p y m → (x ≡ y) × (d ≡ m)
  offers_one b who p offered.Kept offered.Kept d m one two = (refl, one.2 ∙ sym two.2)
  offers_one b who p offered.Kept (offered.Overlaps q) d m one two = absurd
      (let no : true ≡ false = sym one.0 ∙ two.0 in cc)
  offers_one b who p offered.Kept (offered.Full q) d m one two = absurd (omega (arith, one.1, two.1))
  offers_one b who p (offered.Overlaps q) offered.Kept d m one two = absurd
      (let no : true ≡ false = sym two.0 ∙ one.0 in cc)
  offers_one b who p (offered.Overlaps q) (offered.Overlaps r) d m one two =
      (ap (λ x. offered.Overlaps x) (one.1 ∙ sym two.1), one.2 ∙ sym two.2)
  offers_one b who p (offered.Overlaps q) (offered.Full r) d m one two = absurd
      (let no : true ≡ false = sym two.0 ∙ one.0 in cc)
  offers_one b who p (offered.Full q) offered.Kept d m one two = absurd (omega (arith, one.1, two.1))
  offers_one b who p (offered.Full q) (offered.Overlaps r) d m one two = absurd
      (let no : true ≡ false = sym one.0 ∙ two.0 in cc)
  offers_one b who p (offered.Full q) (offered.Full r) d m one two =
      (ap (λ x. offered.Full x) (one.2 ∙ sym two.2), one.3 ∙ sym two.3)

  taken_is : (b : PlainBoard W) (who : ℕ) (t u : Taken W) → t.who ≡ who → u.who ≡ who
      → Some (both t.left t.right) ≡ Some (both u.left u.right) → t ≡ u
  taken_is b who t u one two same =
      ap (λ n. pair_of n t.left t.right) (one ∙ sym two)
      ∙ ap (λ p. pair_of u.who p t.right) (left_is t.left t.right u.left u.right same)
      ∙ ap (λ q. pair_of u.who u.left q) (right_is t.left t.right u.left u.right same)

  pub claims_one : (b : PlainBoard W) (who : ℕ) (x y : CoreClaimed W) (d m : PlainBoard W)
      → Claims b who x d → Claims b who y m → (x ≡ y) × (d ≡ m)
  claims_one b who (claimed.Pair t) (claimed.Pair u) d m one two =
      let same : t ≡ u = taken_is b who t u one.0 two.0 (sym one.1 ∙ two.1) in
      (ap (λ v. claimed.Pair v) same, one.3 ∙ ap (λ v. with_claim b v) same ∙ sym two.3)
  claims_one b who (claimed.Pair t) claimed.NoPair d m one two = absurd
      (let clash : Some (both t.left t.right) ≡ None = sym one.1 ∙ two.0 in cc)
  claims_one b who (claimed.Pair t) claimed.Full d m one two = absurd (omega (arith, one.2, two.2))
  claims_one b who claimed.NoPair (claimed.Pair t) d m one two = absurd
      (let clash : Some (both t.left t.right) ≡ None = sym two.1 ∙ one.0 in cc)
  claims_one b who claimed.NoPair claimed.NoPair d m one two = (refl, one.1 ∙ sym two.1)
  claims_one b who claimed.NoPair claimed.Full d m one two = absurd
      (let clash : Some two.0 ≡ None = sym two.1 ∙ one.0 in cc)
  claims_one b who claimed.Full (claimed.Pair t) d m one two = absurd (omega (arith, one.2, two.2))
  claims_one b who claimed.Full claimed.NoPair d m one two = absurd
      (let clash : Some one.0 ≡ None = sym one.1 ∙ two.0 in cc)
  claims_one b who claimed.Full claimed.Full d m one two = (refl, one.3 ∙ sym two.3)

  pub is_determined : IsDetermined W
  is_determined = record { to_offers = offers_one; to_claims = claims_one }

  module _ (stands : ℕ → ℕ → W → Type 0) where
    stand_moved : (d m : PlainBoard W) → d ≡ m → Each (HasStanding stands) m.held → Each (HasStanding stands) d.held
    stand_moved d m same all = let P : PlainBoard W
        → Type 0 = λ x. Each (HasStanding stands) x.held in subst P (sym same) all

    -- held values stand if they did and those that come in do
    pub step_stands : (b : PlainBoard W) (call : Call W) (d : PlainBoard W) → Each (HasStanding stands) b.held
        → Brings stands call
        → IsStep b call d → Each (HasStanding stands) d.held
    step_stands b (offer who p offered.Kept) d all new step =
        stand_moved d (with_offer b who p) step.2.2 (each_put (λ q. q.lo) p (HasStanding stands) b.held new all)
    step_stands b (offer who p (offered.Overlaps q)) d all new step = stand_moved d b step.2.2 all
    step_stands b (offer who p (offered.Full q)) d all new step = stand_moved d b step.2.3 all
    step_stands b (claim who (claimed.Pair t)) d all new step =
        stand_moved d (with_claim b t) step.3 (each_without_pair b.held t.left t.right step.1 (HasStanding stands) all)
    step_stands b (claim who claimed.NoPair) d all new step = stand_moved d b step.1 all
    step_stands b (claim who claimed.Full) d all new step = stand_moved d b step.3 all
    step_stands b (settle t value) d all new step =
        stand_moved d (with_settle b t value) step.1
        (each_put (λ q. q.lo) (piece_at t.left.lo t.right.hi value) (HasStanding stands) b.held new all)
    step_stands b (put_back t) d all new step =
        stand_moved d (with_put_back b t) step.1
        (each_put (λ q. q.lo) t.left (HasStanding stands) (put_piece t.right b.held) new.0
        (each_put (λ q. q.lo) t.right (HasStanding stands) b.held new.1 all))

    -- the values of a pair stand
    pub pair_stands : (b : PlainBoard W) (t : Taken W) → Each (HasStanding stands) b.held
        → first_pair b.held ≡ Some (t.left, t.right)
        → HasStanding stands t.left × HasStanding stands t.right
    pair_stands b t all found = each_pair b.held t.left t.right found (HasStanding stands) all

    pub step_keeps : (b : PlainBoard W) (call : Call W) (d : PlainBoard W) → IsSoundFor stands b → Brings stands call
        → IsStep b call d → IsSoundFor stands d
    step_keeps b call d held new step = record {
      sound = step_sound b held.sound call d step;
      stand = step_stands b call d held.stand new step;
    }

    pub lead_keeps : (b : PlainBoard W) (calls : List (Call W)) (d : PlainBoard W) → IsSoundFor stands b
        → Each (Brings stands) calls → Lead b calls d
        → IsSoundFor stands d
    lead_keeps b [] d held new led = let P : PlainBoard W → Type 0 = λ x. IsSoundFor stands x in subst P (sym led) held
    lead_keeps b (call ∷ calls) d held new led =
        lead_keeps led.0 calls d (step_keeps b call led.0 held new.0 led.1) new.1 led.2

    pub every_board_is_sound : EveryBoardIsSound stands
    every_board_is_sound rows room calls b new led =
        lead_keeps (empty rows room) calls b (record { sound = sound_empty rows room; stand = tt }) new led

  -- the claims of one caller on the board are those of its log
  pub sound_claims : (who : ℕ) (b : PlainBoard W) → IsSound b → claims_by who b.claims ≡ claims_of who b.log
  sound_claims who b sound =
      ap (λ (m : Bare). claims_by who m.claims) sound.replayed
      ∙ ap (λ claims. claims_by who claims) (replay_claims (empty b.rows b.room) b.log)

  -- the log is no longer than the room
  pub sound_length : (b : PlainBoard W) → IsSound b → length b.log ≤ b.room
  sound_length b sound = omega (arith, sound.tidy.fits)
