use Rattle.std.proofs.Common.{◌≡◌, ℕ, List, Bool, false, cond, get_or, replicate, sym, ap, ◌∙◌, arith}
use Rattle.std.proofs.lemmas.List.{get_or-replicate}
use Rattle.steal_deal.specs.declared.view.View.{View}
use Rattle.steal_deal.specs.Views.{copies}
use Rattle.steal_deal.proofs.hand.Hand.of.Goals as goal

pub invariant_of-result : goal.invariant_of-result
invariant_of-result c =
    let unflagged : (b : ℕ)
    → get_or c.none_met-met.result b false ≡ get_or (replicate 64 false) b false = λ b. ap
    (λ (l : List Bool). get_or l b false) c.none_met-met.ensures in
    record {
      number_is = sym (ap (λ (v : View). v.number) c.requires.fresh);
      in_range = let same : c.args.seat.me.0.number ≡ c.args.number = ap (λ (v : View). v.number) c.requires.fresh in
          let below = c.requires.in_range in omega arith;
      met_is = λ b below. ap (λ (v : View). copies b v.met) c.requires.fresh
          ∙ sym (ap (λ f. cond f 1 0) (unflagged b ∙ get_or-replicate 64 b false false below));
    }
