-- Each change of a tidy board gives a tidy board.
use Rattle.std.proofs.Common.{◌≡◌, ◌≢◌, ℕ, ◌+◌, ◌<◌, ◌≤◌, ◌∙◌, ◌⊎◌, inl, inr, Bool, true, false, ◌&&◌, List, [], ◌∷◌}
use Rattle.std.proofs.Common.{◌++◌, length, ap, sym, refl, arith, length-append}
use Rattle.std.specs.Prelude.{Some}
use Rattle.std.proofs.lemmas.Bool.Decides.{nat_tests}
use Rattle.std.proofs.lemmas.List.Sums.{sum_by_push}
use Rattle.interval_kit.specs.declared.piece.Piece.{Piece}
use Rattle.board_core.specs.declared.event.Logged.{Logged}
use Rattle.board_core.specs.declared.taken.Taken.{Taken}
use Rattle.board_core.specs.Ordered.{Each, IsRisingBy}
use Rattle.board_core.specs.Board.{offer_entry, claim_entry, settle_entry, put_back_entry, PlainBoard, piece_at, free}
use Rattle.board_core.specs.Board.{is_clear, held_clear, claims_clear, first_pair, put_piece, claim_of, is_same}
use Rattle.board_core.specs.Board.{without_claim, without_pair, IsClaim, with_offer, with_claim, with_settle}
use Rattle.board_core.specs.Board.{with_put_back}
use Rattle.board_core.specs.Sound.{covers, held_at, claims_at, offers_at, offered_at, IsTidy}
use Rattle.board_core.proofs.OrderedLemmas.{each_map, each_put, sum_put, length_put, rising_put, each_without}
use Rattle.board_core.proofs.OrderedLemmas.{rising_without}
use Rattle.board_core.proofs.PieceLemmas.{covers_joint, covers_first, covers_within, clear_sum, none_starts, sum_open}
use Rattle.board_core.proofs.PieceLemmas.{length_open, each_open, pair_adjoins, sum_pair, each_pair}
use Rattle.board_core.proofs.PieceLemmas.{each_without_pair, rising_without_pair}

both_true : (s t : Bool) → (s && t) ≡ true → (s ≡ true) × (t ≡ true)
both_true s t = elim s as (λ v. (v && t) ≡ true → (v ≡ true) × (t ≡ true)) [ true ↦ λ h. (refl, h) | false ↦ λ h. cc ]

covers_cases : (row lo hi : ℕ) → (covers row lo hi ≡ 0) ⊎ (covers row lo hi ≡ 1)
covers_cases row lo hi = grind (arith, nat_tests)

pub log_length : (log : List Logged) (e : Logged) → length (log ++ e ∷ []) ≡ length log + 1
log_length log e = omega (arith, length-append log (e ∷ []))

pub offers_push : (row : ℕ) (log : List Logged) (e : Logged)
    → offers_at row (log ++ e ∷ []) ≡ offers_at row log + offered_at row e.event e.reply
offers_push row log e = sum_by_push (λ f. offered_at row f.event f.reply) log e

module _ {W : Type 0} (b : PlainBoard W) (tidy : IsTidy b) where
  held_nonempty : Each (λ p. p.lo < p.hi) b.held
  held_nonempty = each_map (λ p. (p.lo < p.hi) × (p.hi ≤ b.rows)) (λ p. p.lo < p.hi) (λ p within. within.0) b.held
      tidy.held_within

  claims_nonempty : Each (λ c. c.lo < c.hi) b.claims
  claims_nonempty = each_map (λ c. (c.lo < c.mid) × (c.mid < c.hi) × (c.hi ≤ b.rows)) (λ c. c.lo < c.hi)
      (λ c within. omega (arith, within.0, within.1)) b.claims tidy.claims_within

  -- where no held interval has the row, none begins there
  no_piece_at : (row : ℕ) → held_at row b.held ≡ 0 → Each (λ p. p.lo ≢ row) b.held
  no_piece_at row none = none_starts (λ p. p.lo) (λ p. p.hi) row b.held held_nonempty none

  no_claim_at : (row : ℕ) → claims_at row b.claims ≡ 0 → Each (λ c. c.lo ≢ row) b.claims
  no_claim_at row none = none_starts (λ c. c.lo) (λ c. c.hi) row b.claims claims_nonempty none

  module _ (who : ℕ) (p : Piece W) (nonempty : p.lo < p.hi) (within : p.hi ≤ b.rows)
      (clear : is_clear p.lo p.hi b ≡ true) (room : 1 ≤ free b) where
    held_off : (row : ℕ) → covers row p.lo p.hi ≡ 1 → held_at row b.held ≡ 0
    held_off row here = clear_sum (λ q. q.lo) (λ q. q.hi) row p.lo p.hi b.held here
        (both_true (held_clear p.lo p.hi b.held) (claims_clear p.lo p.hi b.claims) clear).0

    claims_off : (row : ℕ) → covers row p.lo p.hi ≡ 1 → claims_at row b.claims ≡ 0
    claims_off row here = clear_sum (λ c. c.lo) (λ c. c.hi) row p.lo p.hi b.claims here
        (both_true (held_clear p.lo p.hi b.held) (claims_clear p.lo p.hi b.claims) clear).1

    once_more : (row : ℕ) → offers_at row b.log + covers row p.lo p.hi ≤ 1
    once_more row =
        elim (covers_cases row p.lo p.hi) [
          | inl none ↦ omega (arith, none, tidy.once row)
          | inr here ↦ omega (arith, here, tidy.covered row, held_off row here, claims_off row here)
        ]

    pub tidy_offer : IsTidy (with_offer b who p)
    tidy_offer = record {
      held_within = each_put (λ q. q.lo) p (λ q. (q.lo < q.hi) × (q.hi ≤ b.rows)) b.held (nonempty, within)
          tidy.held_within;
      claims_within = tidy.claims_within;
      held_rises = rising_put (λ q. q.lo) p b.held
          (no_piece_at p.lo (held_off p.lo (covers_first p.lo p.hi nonempty))) tidy.held_rises;
      claims_rise = tidy.claims_rise;
      covered = λ row. omega (
        arith,
        sum_put (λ q. q.lo) p (λ q. covers row q.lo q.hi) b.held,
        tidy.covered row,
        offers_push row b.log (offer_entry who p),
      );
      once = λ row. omega (arith, once_more row, offers_push row b.log (offer_entry who p));
      fits = omega (arith, room, log_length b.log (offer_entry who p));
    }

  module _ (t : Taken W) (found : first_pair b.held ≡ Some (t.left, t.right)) (room : 2 ≤ free b) where
    parts : ((t.left.lo < t.left.hi) × (t.left.hi ≤ b.rows)) × ((t.right.lo < t.right.hi) × (t.right.hi ≤ b.rows))
    parts = each_pair b.held t.left t.right found (λ q. (q.lo < q.hi) × (q.hi ≤ b.rows)) tidy.held_within

    meets : t.left.hi ≡ t.right.lo
    meets = pair_adjoins b.held t.left t.right found

    held_sum : (row : ℕ) → held_at row b.held ≡ covers row t.left.lo t.left.hi + covers row t.right.lo t.right.hi +
        held_at row (without_pair b.held)
    held_sum row = sum_pair b.held t.left t.right found (λ q. covers row q.lo q.hi)

    joint : (row : ℕ) → covers row t.left.lo t.left.hi + covers row t.right.lo t.right.hi ≡ covers row t.left.lo
        t.right.hi
    joint row =
        ap (λ mid. covers row t.left.lo t.left.hi + covers row mid t.right.hi) (sym meets)
        ∙ covers_joint row t.left.lo t.left.hi t.right.hi (omega (arith, parts.0.0)) (omega (arith, parts.1.0, meets))

    unclaimed : claims_at t.left.lo b.claims ≡ 0
    unclaimed = omega (
      arith,
      held_sum t.left.lo,
      covers_first t.left.lo t.left.hi parts.0.0,
      tidy.covered t.left.lo,
      tidy.once t.left.lo,
    )

    pub tidy_claim : IsTidy (with_claim b t)
    tidy_claim = record {
      held_within = each_without_pair b.held t.left t.right found (λ q. (q.lo < q.hi) × (q.hi ≤ b.rows))
          tidy.held_within;
      claims_within = each_put (λ c. c.lo) (claim_of t) (λ c. (c.lo < c.mid) × (c.mid < c.hi) × (c.hi ≤ b.rows))
          b.claims
          (parts.0.0, omega (arith, parts.1.0, meets), parts.1.1) tidy.claims_within;
      held_rises = rising_without_pair b.held t.left t.right found (λ q. q.lo) tidy.held_rises;
      claims_rise = rising_put (λ c. c.lo) (claim_of t) b.claims (no_claim_at t.left.lo unclaimed) tidy.claims_rise;
      covered = λ row. omega (
        arith,
        held_sum row,
        joint row,
        sum_put (λ c. c.lo) (claim_of t) (λ c. covers row c.lo c.hi) b.claims,
        tidy.covered row,
        offers_push row b.log (claim_entry t.who t),
      );
      once = λ row. omega (arith, tidy.once row, offers_push row b.log (claim_entry t.who t));
      fits = omega (arith, room, log_length b.log (claim_entry t.who t), length_put (λ c. c.lo) (claim_of t) b.claims);
    }

  module _ (t : Taken W) (is_claim : IsClaim t b.claims) where
    claim_within : (t.left.lo < t.left.hi) × (t.left.hi < t.right.hi) × (t.right.hi ≤ b.rows)
    claim_within = each_open (claim_of t) b.claims is_claim.1
        (λ c. (c.lo < c.mid) × (c.mid < c.hi) × (c.hi ≤ b.rows)) tidy.claims_within

    claims_sum : (row : ℕ)
        → claims_at row b.claims ≡ covers row t.left.lo t.right.hi + claims_at row
        (without_claim (claim_of t) b.claims)
    claims_sum row = sum_open (claim_of t) b.claims is_claim.1 (λ c. covers row c.lo c.hi)

    -- no held interval has a row of the claim
    not_held : (row : ℕ) → t.left.lo ≤ row → row < t.right.hi → held_at row b.held ≡ 0
    not_held row from to = omega
        (arith, claims_sum row, covers_within row t.left.lo t.right.hi from to, tidy.covered row, tidy.once row)

    module _ (value : W) where
      abbrev whole : Piece W
      whole = piece_at t.left.lo t.right.hi value

      pub tidy_settle : IsTidy (with_settle b t value)
      tidy_settle = record {
        held_within = each_put (λ q. q.lo) whole (λ q. (q.lo < q.hi) × (q.hi ≤ b.rows)) b.held
            (omega (arith, claim_within.0, claim_within.1), claim_within.2) tidy.held_within;
        claims_within = each_without (λ c. is_same c (claim_of t))
            (λ c. (c.lo < c.mid) × (c.mid < c.hi) × (c.hi ≤ b.rows)) b.claims tidy.claims_within;
        held_rises = rising_put (λ q. q.lo) whole b.held
            (no_piece_at t.left.lo
            (not_held t.left.lo (omega arith) (omega (arith, claim_within.0, claim_within.1)))) tidy.held_rises;
        claims_rise = rising_without (λ c. is_same c (claim_of t)) (λ c. c.lo) b.claims tidy.claims_rise;
        covered = λ row. omega (
          arith,
          sum_put (λ q. q.lo) whole (λ q. covers row q.lo q.hi) b.held,
          claims_sum row,
          tidy.covered row,
          offers_push row b.log (settle_entry t),
        );
        once = λ row. omega (arith, tidy.once row, offers_push row b.log (settle_entry t));
        fits = omega (
          arith,
          tidy.fits,
          log_length b.log (settle_entry t),
          length_open (claim_of t) b.claims
              is_claim.1,
        );
      }

    abbrev pub with_right : List (Piece W)
    with_right = put_piece t.right b.held

    pub right_rises : IsRisingBy (λ q. q.lo) with_right
    right_rises = rising_put (λ q. q.lo) t.right b.held
        (no_piece_at t.right.lo
        (not_held t.right.lo (omega (arith, is_claim.0, claim_within.0))
        (omega (arith, is_claim.0, claim_within.1)))) tidy.held_rises

    left_is_new : Each (λ q. q.lo ≢ t.left.lo) with_right
    left_is_new = each_put (λ q. q.lo) t.right (λ q. q.lo ≢ t.left.lo) b.held
        (omega (arith, is_claim.0, claim_within.0))
        (no_piece_at t.left.lo (not_held t.left.lo (omega arith) (omega (arith, claim_within.0, claim_within.1))))

    halves : (row : ℕ) → covers row t.left.lo t.left.hi + covers row t.right.lo t.right.hi ≡ covers row t.left.lo
        t.right.hi
    halves row =
        ap (λ mid. covers row t.left.lo t.left.hi + covers row mid t.right.hi) (sym is_claim.0)
        ∙ covers_joint row t.left.lo t.left.hi t.right.hi (omega (arith, claim_within.0))
        (omega (arith, claim_within.1))

    pub tidy_put_back : IsTidy (with_put_back b t)
    tidy_put_back = record {
      held_within = each_put (λ q. q.lo) t.left (λ q. (q.lo < q.hi) × (q.hi ≤ b.rows)) with_right
          (claim_within.0, omega (arith, claim_within.1, claim_within.2))
          (each_put (λ q. q.lo) t.right (λ q. (q.lo < q.hi) × (q.hi ≤ b.rows)) b.held
          (omega (arith, is_claim.0, claim_within.1), claim_within.2) tidy.held_within);
      claims_within = each_without (λ c. is_same c (claim_of t))
          (λ c. (c.lo < c.mid) × (c.mid < c.hi) × (c.hi ≤ b.rows)) b.claims tidy.claims_within;
      held_rises = rising_put (λ q. q.lo) t.left with_right left_is_new right_rises;
      claims_rise = rising_without (λ c. is_same c (claim_of t)) (λ c. c.lo) b.claims tidy.claims_rise;
      covered = λ row. omega (
        arith,
        sum_put (λ q. q.lo) t.left (λ q. covers row q.lo q.hi) with_right,
        sum_put (λ q. q.lo) t.right (λ q. covers row q.lo q.hi) b.held,
        halves row,
        claims_sum row,
        tidy.covered row,
        offers_push row b.log (put_back_entry t),
      );
      once = λ row. omega (arith, tidy.once row, offers_push row b.log (put_back_entry t));
      fits = omega (
        arith,
        tidy.fits,
        log_length b.log (put_back_entry t),
        length_open (claim_of t) b.claims
            is_claim.1,
      );
    }
