-- Leaving out the values keeps what an offer and a claim look at, and what each change makes of the lists.
use Rattle.std.proofs.Common.{◌≡◌, ℕ, ◌==◌, ◌∙◌, true, false, ◌&&◌, cond, List, [], ◌∷◌, ◌++◌, map, ap, sym, refl}
use Rattle.std.specs.Prelude.{Some, None}
use Rattle.std.proofs.lemmas.List.Folds.{list_all-map}
use Rattle.interval_kit.specs.declared.piece.Piece.{Piece}
use Rattle.board_core.specs.declared.taken.Taken.{Taken}
use Rattle.board_core.specs.declared.taken.CoreOffered.{CoreOffered}
use Rattle.board_core.specs.declared.taken.CoreOffered.TheVariants as offered
use Rattle.board_core.specs.declared.taken.CoreClaimed.{CoreClaimed}
use Rattle.board_core.specs.declared.taken.CoreClaimed.TheVariants as claimed
use Rattle.board_core.specs.Calls.{Offers, Claims}
use Rattle.board_core.specs.Board.{offer_entry, claim_entry, settle_entry, put_back_entry, PlainBoard, plain}
use Rattle.board_core.specs.Board.{piece_at, apart, is_clear, claims_clear, pair_from, first_pair, rest_from}
use Rattle.board_core.specs.Board.{without_pair, put_piece, put_claim, claim_of, without_claim, with_offer}
use Rattle.board_core.specs.Board.{with_claim, with_settle, with_put_back}
use Rattle.board_core.specs.Replay.{gap, after}
use Rattle.board_core.specs.Sound.{blank, bare, blank_offered, blank_claimed}
use Rattle.board_core.proofs.OrderedLemmas.{map_put}
use Rattle.board_core.proofs.PieceLemmas.{left_is, right_is}

module _ {W : Type 0} where
  pub clear_blank : (lo hi : ℕ) (b : PlainBoard W) → is_clear lo hi (bare b) ≡ is_clear lo hi b
  clear_blank lo hi b = ap (λ t. t && claims_clear lo hi b.claims)
      (list_all-map (λ p. apart lo hi p.lo p.hi) blank b.held)

  pub put_blank : (p : Piece W) (held : List (Piece W))
      → map blank (put_piece p held) ≡ put_piece (blank p) (map blank held)
  put_blank p held = map_put (λ q. q.lo) p (λ q. q.lo) blank (λ q. refl) held

  rest_blank : (p : Piece W) (qs : List (Piece W)) → map blank (rest_from p qs) ≡ rest_from (blank p) (map blank qs)
  rest_blank p [] = refl
  rest_blank p (q ∷ qs) =
      elim (p.hi == q.lo)
      as (λ t. map blank (cond t qs (p ∷ rest_from q qs)) ≡ cond t (map blank qs)
      (blank p ∷ rest_from (blank q) (map blank qs)))
      [ true ↦ refl | false ↦ ap (λ xs. blank p ∷ xs) (rest_blank q qs) ]

  pub without_blank : (held : List (Piece W)) → map blank (without_pair held) ≡ without_pair (map blank held)
  without_blank [] = refl
  without_blank (p ∷ ps) = rest_blank p ps

  abbrev both : Piece W → Piece W → Piece W × Piece W
  both p q = (p, q)

  abbrev both_blank : Piece W → Piece W → Piece (Unit {0}) × Piece (Unit {0})
  both_blank p q = (blank p, blank q)

  from_blank : (p : Piece W) (qs : List (Piece W)) (left right : Piece W) → pair_from p qs ≡ Some (both left right)
      → pair_from (blank p) (map blank qs) ≡ Some (both_blank left right)
  from_blank p [] left right found = cc
  from_blank p (q ∷ qs) left right found =
      (elim (p.hi == q.lo)
      as (λ t. cond t (Some (both p q)) (pair_from q qs) ≡ Some (both left right)
      → cond t (Some (both_blank p q)) (pair_from (blank q) (map blank qs)) ≡ Some (both_blank left right)) [
        | true ↦ λ here. ap (λ x. Some (both_blank x q)) (left_is p q left right here)
            ∙ ap (λ x. Some (both_blank left x)) (right_is p q left right here)
        | false ↦ λ later. from_blank q qs left right later
      ])
      found

  pub pair_blank : (held : List (Piece W)) (left right : Piece W) → first_pair held ≡ Some (both left right)
      → first_pair (map blank held) ≡ Some (both_blank left right)
  pair_blank [] left right found = cc
  pair_blank (p ∷ ps) left right found = from_blank p ps left right found

  -- each change without the values is the entry's
  module _ (b : PlainBoard W) where
    pub bare_offer : (who : ℕ) (p : Piece W) → bare (with_offer b who p) ≡ after (bare b) (offer_entry who p)
    bare_offer who p =
        ap (λ held. plain b.rows b.room held b.claims (b.log ++ offer_entry who p ∷ [])) (put_blank p b.held)

    pub bare_claim : (t : Taken W) → bare (with_claim b t) ≡ after (bare b) (claim_entry t.who t)
    bare_claim t =
        ap (λ held. plain b.rows b.room held (put_claim (claim_of t) b.claims)
        (b.log ++ claim_entry t.who t ∷ [])) (without_blank b.held)

    pub bare_settle : (t : Taken W) (value : W)
        → bare (with_settle b t value) ≡ after (bare b) (settle_entry t)
    bare_settle t value =
        ap (λ held. plain b.rows b.room held (without_claim (claim_of t) b.claims)
        (b.log ++ settle_entry t ∷ []))
        (put_blank (piece_at t.left.lo t.right.hi value) b.held)

    pub bare_put_back : (t : Taken W) → t.left.hi ≡ t.right.lo
        → bare (with_put_back b t) ≡ after (bare b) (put_back_entry t)
    bare_put_back t adjoins =
        ap (λ held. plain b.rows b.room held (without_claim (claim_of t) b.claims)
        (b.log ++ put_back_entry t ∷ []))
        (put_blank t.left (put_piece t.right b.held)
        ∙ ap (λ held. put_piece (blank t.left) held) (put_blank t.right b.held)
        ∙ ap (λ mid. put_piece (blank t.left) (put_piece (gap mid t.right.hi) (map blank b.held))) (sym adjoins))

  none_from_blank : (p : Piece W) (qs : List (Piece W)) → pair_from p qs ≡ None
      → pair_from (blank p) (map blank qs) ≡ None
  none_from_blank p [] none = refl
  none_from_blank p (q ∷ qs) none =
      (elim (p.hi == q.lo)
      as (λ t. cond t (Some (both p q)) (pair_from q qs) ≡ None
      → cond t (Some (both_blank p q)) (pair_from (blank q) (map blank qs)) ≡ None)
      [ true ↦ λ found. cc | false ↦ λ later. none_from_blank q qs later ])
      none

  pub none_blank : (held : List (Piece W)) → first_pair held ≡ None → first_pair (map blank held) ≡ None
  none_blank [] none = refl
  none_blank (p ∷ ps) none = none_from_blank p ps none

  -- an answer is the same one without the values
  module _ (b : PlainBoard W) (who : ℕ) (d : PlainBoard W) where
    unchanged : d ≡ b → bare d ≡ bare b
    unchanged same = ap (λ (m : PlainBoard W). bare m) same

    pub offers_bare : (p : Piece W) (answer : CoreOffered W) → Offers b who p answer d
        → Offers (bare b) who (blank p) (blank_offered answer) (bare d)
    offers_bare p offered.Kept step =
        (clear_blank p.lo p.hi b ∙ step.0, step.1, ap (λ (m : PlainBoard W). bare m) step.2 ∙ bare_offer b who p)
    offers_bare p (offered.Overlaps q) step =
        (clear_blank p.lo p.hi b ∙ step.0, ap (λ (x : Piece W). blank x) step.1, unchanged step.2)
    offers_bare p (offered.Full q) step =
        (clear_blank p.lo p.hi b ∙ step.0, step.1, ap (λ (x : Piece W). blank x) step.2, unchanged step.3)

    pub claims_bare : (answer : CoreClaimed W) → Claims b who answer d
        → Claims (bare b) who (blank_claimed answer) (bare d)
    claims_bare (claimed.Pair t) step = (
      step.0,
      pair_blank b.held t.left t.right step.1,
      step.2,
      ap (λ (m : PlainBoard W). bare m) step.3
          ∙ bare_claim b t,
    )
    claims_bare claimed.NoPair step = (none_blank b.held step.0, unchanged step.1)
    claims_bare claimed.Full step =
        (both_blank step.0.0 step.0.1, pair_blank b.held step.0.0 step.0.1 step.1, step.2, unchanged step.3)
