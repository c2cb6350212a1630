-- Entries of any form that are seen as the total and the marks of a candidate: their order is a ranking, and
-- joining them keeps it, over any weights.
use Rattle.std.proofs.Common.{◌≡◌, ℕ, ◌≤◌, Bool, List, [], ◌∷◌, sym, ap}
use Rattle.std.proofs.Common.{◌∙◌, arith}
use Rattle.std.proofs.lemmas.Cmp.{on_total}
use Rattle.std.specs.declared.cmp.Ordering.{Ordering}
use Rattle.shape_gen.specs.declared.mark.Mark.{Mark}
use Rattle.witness_order.specs.Rankings.{IsRanking, KeepsRanking}
use Rattle.witness_order.specs.Before.{no_marks, together}
use Rattle.witness_order.proofs.Orders.{before_by-IsRanking, before_by-KeepsRanking, better_by-IsRanking}
use Rattle.witness_order.proofs.Orders.{better_by-KeepsRanking}
use Rattle.semiring_kit.specs.Weight.{WeightsOn, IsWeight}
use Rattle.first_k.specs.FirstK.{AddsReach}
use Rattle.best_k.specs.Best.{total_order}

module _ {W : Type 0} (w : WeightsOn W) (laws : IsWeight w) where
  pub total_order-IsRanking : (greatest : Bool) → IsRanking (total_order w greatest)
  total_order-IsRanking greatest = before_by-IsRanking (better_by-IsRanking laws.ranking greatest)

  pub total_order-KeepsRanking : (greatest : Bool)
      → KeepsRanking (total_order w greatest) (no_marks w.nothing) (together w.plus)
  total_order-KeepsRanking greatest = before_by-KeepsRanking (better_by-KeepsRanking laws.kept greatest)

  module _ {E : Type 0} (pair : E → W × List Mark) (of : (W × List Mark) → E)
      (of_pair : (e : E) → of (pair e) ≡ e) (pair_of : (c : W × List Mark) → pair (of c) ≡ c) where
    abbrev seen_joint : E → E → E
    seen_joint a b = of (together w.plus (pair a) (pair b))

    abbrev seen_reach : E → ℕ
    seen_reach e = w.reach (pair e).0

    pub seen_joint-of : (c d : W × List Mark) → seen_joint (of c) (of d) ≡ of (together w.plus c d)
    seen_joint-of c d =
        ap (λ p. of (together w.plus p (pair (of d)))) (pair_of c) ∙ ap (λ p. of (together w.plus c p)) (pair_of d)

    pub seen-AddsReach : AddsReach seen_reach (of (no_marks w.nothing)) seen_joint
    seen-AddsReach = record {
      unit_reach = ap (λ c. w.reach c.0) (pair_of (no_marks w.nothing)) ∙ laws.nothing_reach;
      product_reach = λ a b.
          let seen = ap (λ c. w.reach c.0) (pair_of (together w.plus (pair a) (pair b))) in
          let within = laws.plus_reach (pair a).0 (pair b).0 in
          omega (arith, seen, within);
    }

    pub seen_reach-of_mark : (mark : Mark) (weight : W) → seen_reach (of (weight, mark ∷ [])) ≤ w.reach weight
    seen_reach-of_mark mark weight =
        let seen = ap (λ c. w.reach c.0) (pair_of (weight, mark ∷ [])) in
        omega (arith, seen)

    module _ (greatest : Bool) where
      abbrev seen_order : E → E → Ordering
      seen_order a b = total_order w greatest (pair a) (pair b)

      pub seen_order-of : (c d : W × List Mark) → seen_order (of c) (of d) ≡ total_order w greatest c d
      seen_order-of c d =
          ap (λ p. total_order w greatest p (pair (of d))) (pair_of c)
          ∙ ap (total_order w greatest c) (pair_of d)

      pub seen-IsRanking : IsRanking seen_order
      seen-IsRanking =
          let ranking = total_order-IsRanking greatest in
          record {
            total = on_total pair ranking.total;
            same = λ a b equal.
                sym (of_pair a) ∙ ap of (ranking.same (pair a) (pair b) equal) ∙ of_pair b;
          }

      pub seen-KeepsRanking : KeepsRanking seen_order (of (no_marks w.nothing)) seen_joint
      seen-KeepsRanking =
          let kept = total_order-KeepsRanking greatest in
          record {
            left_identity = λ a.
                ap (λ p. of (together w.plus p (pair a))) (pair_of (no_marks w.nothing))
                ∙ ap of (kept.left_identity (pair a)) ∙ of_pair a;
            right_identity = λ a.
                ap (λ p. of (together w.plus (pair a) p)) (pair_of (no_marks w.nothing))
                ∙ ap of (kept.right_identity (pair a)) ∙ of_pair a;
            associative = λ a b c.
                ap (λ p. of (together w.plus p (pair c))) (pair_of (together w.plus (pair a) (pair b)))
                ∙ ap of (kept.associative (pair a) (pair b) (pair c))
                ∙ sym (ap (λ p. of (together w.plus (pair a) p)) (pair_of (together w.plus (pair b) (pair c))));
            keeps_left = λ a b c.
                seen_order-of (together w.plus (pair a) (pair b)) (together w.plus (pair a) (pair c))
                ∙ kept.keeps_left (pair a) (pair b) (pair c);
            keeps_right = λ a b c.
                seen_order-of (together w.plus (pair a) (pair c)) (together w.plus (pair b) (pair c))
                ∙ kept.keeps_right (pair a) (pair b) (pair c);
          }
