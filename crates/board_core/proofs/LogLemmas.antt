-- Logs and their replay: beginnings of legal logs, one entry more, the room, and the claims of one caller.
use Rattle.std.proofs.Common.{◌≡◌, ◌≢◌, ℕ, ◌+◌, ◌<◌, ◌≤◌, ◌==◌, ◌∙◌, Bool, true, false, ◌||◌, cond, nat_le, List, []}
use Rattle.std.proofs.Common.{◌∷◌, ◌++◌, length, ap, sym, refl, arith}
use Rattle.std.specs.Prelude.{fold, IsSomeAnd}
use Rattle.std.specs.List.{list_any}
use Rattle.std.proofs.lemmas.Bool.Decides.{nat_tests}
use Rattle.std.proofs.lemmas.List.Sums.{fold_push}
use Rattle.board_core.specs.declared.event.Event.{Event}
use Rattle.board_core.specs.declared.event.Event.TheVariants as event
use Rattle.board_core.specs.declared.event.Reply.{Reply}
use Rattle.board_core.specs.declared.event.Reply.TheVariants as reply
use Rattle.board_core.specs.declared.event.Logged.{Logged}
use Rattle.board_core.specs.declared.taken.Claim.{Claim}
use Rattle.board_core.specs.Ordered.{Each, IsRisingBy}
use Rattle.board_core.specs.Board.{empty, entry, claim_at, put_claim, is_same, without_claim}
use Rattle.board_core.specs.Calls.{IsStep}
use Rattle.board_core.specs.Replay.{Bare, entry_call, claims_by_event, claims_after, after, replay, MayFollow}
use Rattle.board_core.specs.Replay.{IsLegalFrom, IsLegal, claims_by, claims_of}
use Rattle.board_core.proofs.OrderedLemmas.{length_put}
use Rattle.board_core.proofs.PieceLemmas.{is_same-eq, length_open}
use Rattle.board_core.proofs.TidyLemmas.{log_length}

-- a beginning of a legal log is legal
pub legal_start : (b : Bare) (xs ys : List Logged) → IsLegalFrom b (xs ++ ys) → IsLegalFrom b xs
legal_start b [] ys legal = tt
legal_start b (e ∷ xs) ys legal = (legal.0, legal_start (after b e) xs ys legal.1)

pub legal_push : (b : Bare) (xs : List Logged) (e : Logged) → IsLegalFrom b xs → MayFollow (fold after b xs) e
    → IsLegalFrom b (xs ++ e ∷ [])
legal_push b [] e legal follows = (follows, tt)
legal_push b (x ∷ xs) e legal follows = (legal.0, legal_push (after b x) xs e legal.1 follows)

pub replay_push : (rows room : ℕ) (log : List Logged) (e : Logged)
    → replay rows room (log ++ e ∷ []) ≡ after (replay rows room log) e
replay_push rows room log e = fold_push after (empty rows room) log e

-- the claims of a replay come from the entries alone
pub replay_claims : (b : Bare) (log : List Logged) → (fold after b log).claims ≡ fold claims_after b.claims log
replay_claims b [] = refl
replay_claims b (e ∷ es) = replay_claims (after b e) es

fits_after : (b : Bare) (who : ℕ) (event : Event) (reply : Reply) → length b.log + length b.claims ≤ b.room
    → IsSomeAnd (entry_call who event reply) (λ call. IsStep b call (after b (entry who event reply)))
    → length b.log + 1 + length (claims_by_event b.claims who event reply) ≤ b.room
fits_after b who (event.Offer lo hi) reply.Kept fits step = omega (arith, step.2.1)
fits_after b who (event.Offer lo hi) (reply.Pair a m z) fits step = absurd step
fits_after b who event.Claim reply.Kept fits step = absurd step
fits_after b who event.Claim (reply.Pair lo mid hi) fits step = omega
    (arith, step.2, length_put (λ c. c.lo) (claim_at who lo mid hi) b.claims)
fits_after b who (event.Settle lo mid hi) reply.Kept fits step = omega
    (arith, length_open (claim_at who lo mid hi) b.claims step.0.1)
fits_after b who (event.Settle lo mid hi) (reply.Pair a m z) fits step = absurd step
fits_after b who (event.PutBack lo mid hi) reply.Kept fits step = omega
    (arith, length_open (claim_at who lo mid hi) b.claims step.0.1)
fits_after b who (event.PutBack lo mid hi) (reply.Pair a m z) fits step = absurd step

fits_from : (b : Bare) (log : List Logged) → length b.log + length b.claims ≤ b.room → IsLegalFrom b log
    → length b.log + length log ≤ b.room
fits_from b [] fits legal = omega arith
fits_from b (e ∷ es) fits legal =
    let one : length (b.log ++ e ∷ []) ≡ length b.log + 1 = log_length b.log e in
    let more : length b.log + 1 + length (claims_after b.claims e) ≤ b.room = fits_after b e.who e.event e.reply fits
    legal.0 in
    let rest : length (b.log ++ e ∷ []) + length es ≤ b.room = fits_from (after b e) es (omega arith) legal.1 in
    omega arith

-- a legal log is no longer than the room
pub legal_length : (rows room : ℕ) (log : List Logged) → IsLegal rows room log → length log ≤ room
legal_length rows room log legal = omega (arith, fits_from (empty rows room) log (omega arith) legal)

-- another caller's claim is not among those of this one, and its own are in the same order
module _ (who : ℕ) where
  pub by_put_other : (c : Claim) (claims : List Claim) → c.who ≢ who
      → claims_by who (put_claim c claims) ≡ claims_by who claims
  by_put_other c [] other =
      let no : (c.who == who) ≡ false = grind (arith, nat_tests) in
      ap (λ t. cond t (c ∷ []) []) no
  by_put_other c (d ∷ ds) other =
      let no : (c.who == who) ≡ false = grind (arith, nat_tests) in
      elim (nat_le c.lo d.lo) as
      (λ t. claims_by who (cond t (c ∷ d ∷ ds) (d ∷ put_claim c ds)) ≡ claims_by who (d ∷ ds)) [
        | true ↦ ap (λ t. cond t (c ∷ claims_by who (d ∷ ds)) (claims_by who (d ∷ ds))) no
        | false ↦ ap (λ xs. cond (d.who == who) (d ∷ xs) xs) (by_put_other c ds other)
      ]

  pub by_without_other : (c : Claim) (claims : List Claim) → c.who ≢ who
      → claims_by who (without_claim c claims) ≡ claims_by who claims
  by_without_other c [] other = refl
  by_without_other c (d ∷ ds) other =
      (elim (is_same d c)
      as (λ t. is_same d c ≡ t → claims_by who (cond t ds (d ∷ without_claim c ds)) ≡ claims_by who (d ∷ ds)) [
        | true ↦ λ same.
            let named : d.who ≡ c.who = ap (λ (x : Claim). x.who) (is_same-eq d c same) in
            let no : (d.who == who) ≡ false = grind (arith, nat_tests) in
            sym (ap (λ t. cond t (d ∷ claims_by who ds) (claims_by who ds)) no)
        | false ↦ λ differ. ap (λ xs. cond (d.who == who) (d ∷ xs) xs) (by_without_other c ds other)
      ])
      refl

  pub by_without_own : (c : Claim) (claims : List Claim) → c.who ≡ who
      → claims_by who (without_claim c claims) ≡ without_claim c (claims_by who claims)
  by_without_own c [] own = refl
  by_without_own c (d ∷ ds) own =
      (elim (is_same d c)
      as (λ t. is_same d c ≡ t
      → claims_by who (cond t ds (d ∷ without_claim c ds)) ≡ without_claim c (claims_by who (d ∷ ds))) [
        | true ↦ λ same.
            let named : d.who ≡ c.who = ap (λ (x : Claim). x.who) (is_same-eq d c same) in
            let yes : (d.who == who) ≡ true = grind (arith, nat_tests) in
            sym (ap (λ t. without_claim c (cond t (d ∷ claims_by who ds) (claims_by who ds))) yes
            ∙ ap (λ t. cond t (claims_by who ds) (d ∷ without_claim c (claims_by who ds))) same)
        | false ↦ λ differ.
            (elim (d.who == who)
            as (λ t. cond t (d ∷ claims_by who (without_claim c ds)) (claims_by who (without_claim c ds)) ≡
            without_claim c (cond t (d ∷ claims_by who ds) (claims_by who ds))) [
              | true ↦ ap (λ xs. d ∷ xs) (by_without_own c ds own)
                  ∙ sym (ap (λ t. cond t (claims_by who ds) (d ∷ without_claim c (claims_by who ds))) differ)
              | false ↦ by_without_own c ds own
            ])
      ])
      refl

  below_all : (lo : ℕ) (c : Claim) (claims : List Claim) → c.lo ≤ lo → Each (λ d. lo < d.lo) claims
      → put_claim c (claims_by who claims) ≡ c ∷ claims_by who claims
  below_all lo c [] low above = refl
  below_all lo c (d ∷ ds) low above =
      elim (d.who == who)
      as (λ t. put_claim c (cond t (d ∷ claims_by who ds) (claims_by who ds)) ≡ c ∷ cond t (d ∷ claims_by who ds)
      (claims_by who ds)) [
        | true ↦ (let before : nat_le c.lo d.lo ≡ true = grind (arith, nat_tests, above.0) in
            ap (λ t. cond t (c ∷ d ∷ claims_by who ds) (d ∷ put_claim c (claims_by who ds))) before)
        | false ↦ below_all lo c ds low above.1
      ]

  pub by_put_own : (c : Claim) (claims : List Claim) → c.who ≡ who → IsRisingBy (λ d. d.lo) claims
      → claims_by who (put_claim c claims) ≡ put_claim c (claims_by who claims)
  by_put_own c [] own up =
      let yes : (c.who == who) ≡ true = grind (arith, nat_tests) in
      ap (λ t. cond t (c ∷ []) []) yes
  by_put_own c (d ∷ ds) own up =
      let yes : (c.who == who) ≡ true = grind (arith, nat_tests) in
      (elim (nat_le c.lo d.lo)
      as (λ t. nat_le c.lo d.lo ≡ t
      → claims_by who (cond t (c ∷ d ∷ ds) (d ∷ put_claim c ds)) ≡ put_claim c (claims_by who (d ∷ ds))) [
        | true ↦ λ low.
            let at_most : c.lo ≤ d.lo = grind (arith, nat_tests) in
            ap (λ t. cond t (c ∷ claims_by who (d ∷ ds)) (claims_by who (d ∷ ds))) yes
            ∙ (elim (d.who == who)
            as (λ t. c ∷ cond t (d ∷ claims_by who ds) (claims_by who ds) ≡ put_claim c
            (cond t (d ∷ claims_by who ds) (claims_by who ds))) [
              | true ↦ sym (ap (λ t. cond t (c ∷ d ∷ claims_by who ds) (d ∷ put_claim c (claims_by who ds))) low)
              | false ↦ sym (below_all d.lo c ds at_most up.0)
            ])
        | false ↦ λ high.
            (elim (d.who == who)
            as (λ t. cond t (d ∷ claims_by who (put_claim c ds)) (claims_by who (put_claim c ds)) ≡ put_claim c
            (cond t (d ∷ claims_by who ds) (claims_by who ds))) [
              | true ↦ ap (λ xs. d ∷ xs) (by_put_own c ds own up.1)
                  ∙ sym (ap (λ t. cond t (c ∷ d ∷ claims_by who ds) (d ∷ put_claim c (claims_by who ds))) high)
              | false ↦ by_put_own c ds own up.1
            ])
      ])
      refl

  -- a claim among those of one caller is on the board
  pub open_by : (c : Claim) (claims : List Claim) → list_any (λ d. is_same d c) (claims_by who claims) ≡ true
      → list_any (λ d. is_same d c) claims ≡ true
  open_by c [] found = found
  open_by c (d ∷ ds) found =
      (elim (d.who == who)
      as (λ t. list_any (λ e. is_same e c) (cond t (d ∷ claims_by who ds) (claims_by who ds)) ≡ true
      → (is_same d c || list_any (λ e. is_same e c) ds) ≡ true) [
        | true ↦ (elim (is_same d c)
            as (λ s. (s || list_any (λ e. is_same e c) (claims_by who ds)) ≡ true
            → (s || list_any (λ e. is_same e c) ds) ≡ true)
            [ true ↦ λ here. refl | false ↦ λ later. open_by c ds later ])
        | false ↦ λ later. or_right (is_same d c) (list_any (λ e. is_same e c) ds) (open_by c ds later)
      ])
      found
    where
      or_right : (s t : Bool) → t ≡ true → (s || t) ≡ true
      or_right s t h = elim s as (λ v. (v || t) ≡ true) [ true ↦ refl | false ↦ h ]

  claims_by_event-other : (claims : List Claim) (n : ℕ) (event : Event) (reply : Reply) → n ≢ who
      → claims_by who (claims_by_event claims n event reply) ≡ claims_by who claims
  claims_by_event-other claims n (event.Offer lo hi) reply other = refl
  claims_by_event-other claims n event.Claim reply.Kept other = refl
  claims_by_event-other claims n event.Claim (reply.Pair lo mid hi) other = by_put_other (claim_at n lo mid hi)
      claims other
  claims_by_event-other claims n (event.Settle lo mid hi) reply other = by_without_other (claim_at n lo mid hi)
      claims other
  claims_by_event-other claims n (event.PutBack lo mid hi) reply other = by_without_other (claim_at n lo mid hi)
      claims other

  -- another caller's entry leaves this one's claims as they were
  pub claims_other : (log : List Logged) (e : Logged) → e.who ≢ who → claims_of who (log ++ e ∷ []) ≡ claims_of who log
  claims_other log e other =
      ap (λ claims. claims_by who claims) (fold_push claims_after [] log e)
      ∙ claims_by_event-other (fold claims_after [] log) e.who e.event e.reply other
