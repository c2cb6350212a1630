-- A hand's plain fields and its view, and what contracts see of the fields.
use Rattle.std.proofs.Common.{◌≡◌, ℕ, ◌+◌, ◌<◌, Bool, true, false, cond, List, length, get_or, set, subst, sym, ap}
use Rattle.std.proofs.Common.{◌∙◌, get_or-set_same, get_or-set_other, arith}
use mathlib.Core.Logic.{dite}
use native.Mathlib.Decide.{ℕ_discrete}
use Rattle.steal_deal.specs.declared.view.View.{View}
use Rattle.steal_deal.specs.Views.{copies, gained, found_empty}
use Rattle.steal_deal.specs.Draws.{HasMet, NotMet}
use Rattle.steal_deal.specs.Hands.{BlocksSeen, HandSeen, IsDealtWith, IsHand}
use Rattle.steal_deal.proofs.Counting.{copies_push-same, copies_push-other}

pub dealt_inside : (blocks blocks' : BlocksSeen) (hand hand' : HandSeen) → blocks' ≡ blocks → hand' ≡ hand
    → IsDealtWith blocks hand → IsDealtWith blocks' hand'
dealt_inside blocks blocks' hand hand' b h dealt = record {
  table = ap (λ (x : HandSeen). x.table) h ∙ (dealt.table ∙ sym (ap (λ (x : BlocksSeen). x.table) b));
  partition = ap (λ (x : HandSeen). x.view.partition) h
      ∙ (dealt.partition ∙ sym (ap (λ (x : BlocksSeen). x.partition) b));
}

module _ (number : ℕ) (met : List Bool) (v : View) (hand : IsHand number met v) (b : ℕ) (in_range : b < 64) where
  pub flag_down : get_or met b false ≡ false → NotMet v b
  flag_down down = hand.met_is b in_range ∙ ap (λ f. cond f 1 0) down

  pub flag_up : get_or met b false ≡ true → HasMet v b
  flag_up up = hand.met_is b in_range ∙ ap (λ f. cond f 1 0) up

  pub flag_raised : (w : View) → length met ≡ 64 → NotMet v b → w ≡ found_empty v b → IsHand number (set met b true) w
  flag_raised w wide not_met found = subst (λ (u : View). IsHand number (set met b true) u) (sym found) record {
    number_is = hand.number_is;
    in_range = hand.in_range;
    met_is = λ c below. dite (ℕ_discrete b c)
        (λ same. subst (λ (x : ℕ). copies x (found_empty v b).met ≡ cond (get_or (set met b true) x false) 1 0) same
        (copies_push-same b v.met
        ∙ (ap (λ (n : ℕ). n + 1) not_met
        ∙ sym (ap (λ f. cond f 1 0) (get_or-set_same met b true false (omega arith))))))
        (λ differ. copies_push-other c b v.met differ
        ∙ (hand.met_is c below
        ∙ sym (ap (λ f. cond f 1 0) (get_or-set_other met b c true false (λ e. differ (sym e))))));
  }

pub leaf_kept : (number : ℕ) (met : List Bool) (v w : View) (y : ℕ) → IsHand number met v → w ≡ gained v y
    → IsHand number met w
leaf_kept number met v w y hand joins = subst (λ (u : View). IsHand number met u) (sym joins)
    record { number_is = hand.number_is; in_range = hand.in_range; met_is = hand.met_is }
