-- One turn of a worker, from what it made of the seat.
use Rattle.std.proofs.Common.{◌≡◌, ℕ, ◌+◌, List, [], ◌∷◌, ◌++◌, length, get_or, ap, sym, subst, ◌∙◌, arith, append-nil}
use Rattle.steal_deal.specs.Hands.{HandSeen, IsDealtWith}
use Rattle.board_table.specs.Seen.{IsReady, IsSameSeat}
use Rattle.worker_pool.specs.declared.pocket.Pocket.{Pocket}
use Rattle.worker_pool.specs.declared.pocket.Pocket.TheVariants.{Empty}
use Rattle.worker_pool.specs.declared.turn.Turn.{Turn}
use Rattle.worker_pool.specs.declared.turn.Turn.TheVariants as turn
use Rattle.worker_pool.specs.declared.site.Site.{Site}
use Rattle.worker_pool.specs.declared.site.Worker.{Worker}
use Rattle.worker_pool.specs.Leaves.{AreDealt, HasMetAll}
use Rattle.worker_pool.specs.Turns.{IsNotDrained, IfDrained, TurnEnds, LeafEnds, left_by}
use Rattle.worker_pool.specs.Sites.{IsAtWork, IsDelivered, TakesTurn}

pub undrained : {W : Type 0} (answer : Turn W) (P : Type 0) → IsNotDrained answer → IfDrained answer P
undrained turn.Went P is = tt
undrained (turn.Missed pocket) P is = tt
undrained (turn.Refused p) P is = tt
undrained turn.Drained P is = absurd is
undrained turn.Memory P is = tt
undrained (turn.Unreturned t) P is = tt

pub if_drained : {W : Type 0} (answer : Turn W) (P : Type 0) → P → IfDrained answer P
if_drained turn.Went P is = tt
if_drained (turn.Missed pocket) P is = tt
if_drained (turn.Refused p) P is = tt
if_drained turn.Drained P is = is
if_drained turn.Memory P is = tt
if_drained (turn.Unreturned t) P is = tt

module _ {F W : Type 0} where
  -- a worker whose seat alone has changed
  pub seat_at_work : (site : Site F W) (old new : Worker F W) → IsAtWork site old → IsReady site.board.now new.seat
      → IsSameSeat old.seat new.seat
      → new.hand ≡ old.hand → new.leaves ≡ old.leaves → IsAtWork site new
  seat_at_work site old new at_work ready same hand leaves = record {
    ready = ready;
    plan_is = same.plan ∙ at_work.plan_is;
    hand = subst (λ h. IsDealtWith site.blocks.now h) (sym hand) at_work.hand;
    dealt = subst (λ (h : HandSeen). AreDealt h.view) (sym hand) at_work.dealt;
    leaves_are = leaves ∙ at_work.leaves_are ∙ ap (λ (h : HandSeen). length h.view.taken) (sym hand);
  }

  module _ (rows : F → ℕ) (stands : F → ℕ → ℕ → W → Type 0) (cut : List ℕ) (old new : Worker F W) where
    pub without_leaf : (before : Pocket W) (answer : Turn W) (pairs : ℕ) → new.pairs ≡ old.pairs + pairs
        → new.hand.view.taken ≡ old.hand.view.taken
        → IfDrained answer (HasMetAll new.hand.view) → TurnEnds rows stands old.seat before pairs answer new.seat
        → TakesTurn rows stands cut old before answer new
    without_leaf before answer pairs more taken met ends = record {
      pairs = pairs;
      pairs_are = more;
      ends = ends;
      leaves = [];
      taken = taken ∙ sym (append-nil old.hand.view.taken);
      delivered = λ k within. absurd (omega arith);
      met = met;
    }

    pub with_leaf : (y : ℕ) (answer : Turn W) → new.pairs ≡ old.pairs
        → new.hand.view.taken ≡ old.hand.view.taken ++ y ∷ [] → IsNotDrained answer
        → LeafEnds rows stands old.seat (get_or cut y 0) (get_or cut (y + 1) 0) answer new.seat
        → TakesTurn rows stands cut old Empty answer new
    with_leaf y answer same taken not_drained leaf = record {
      pairs = 0;
      pairs_are = omega (arith, same);
      ends = leaf.ends;
      leaves = y ∷ [];
      taken = taken;
      delivered = λ k within.
          let first : k ≡ 0 = omega arith in
          subst (λ n. IsDelivered cut leaf.ends.makes.gained new.seat.number (left_by answer) (get_or (y ∷ []) n 0))
          (sym first) (leaf.accounted (omega arith));
      met = undrained answer (HasMetAll new.hand.view) not_drained;
    }

    -- the hand found no leaf before
    pub after_no_leaf : (hand : HandSeen) (answer : Turn W) → hand.view.taken ≡ old.hand.view.taken
        → TakesTurn rows stands cut (record old { hand = hand }) Empty answer new
        → TakesTurn rows stands cut old Empty answer new
    after_no_leaf hand answer taken turn = record {
      pairs = turn.pairs;
      pairs_are = turn.pairs_are;
      ends = turn.ends;
      leaves = turn.leaves;
      taken = turn.taken ∙ ap (λ ys. ys ++ turn.leaves) taken;
      delivered = turn.delivered;
      met = turn.met;
    }
