-- The sum over candidates is the first k of them, over any weights.
use Rattle.std.proofs.Common.{◌≡◌, ℕ, Bool, List, [], ◌∷◌, ◌++◌, map, refl, sym, ap, ◌∙◌}
use Rattle.std.specs.declared.cmp.Ordering.{Ordering}
use Rattle.shape_gen.specs.declared.mark.Mark.{Mark}
use Rattle.shape_gen.proofs.Lists.{map-map}
use Rattle.monoid_kit.specs.Product.{product_by}
use Rattle.semiring_kit.specs.Aggregates.{sum_over, total_by}
use Rattle.semiring_kit.specs.Semiring.{SemiringOn}
use Rattle.semiring_kit.specs.Weight.{WeightsOn, IsWeight}
use Rattle.witness_order.specs.Before.{no_marks, together}
use Rattle.witness_order.specs.Ranked.{first_of}
use Rattle.witness_order.proofs.Placed.{first_of-map}
use Rattle.witness_order.proofs.Firsts.{first_of-append}
use Rattle.first_k.specs.FirstK.{products, first_k}
use Rattle.first_k.specs.FirstKLaws.{first_of-nil, first_of-products}
use Rattle.best_k.specs.SeenLaws.{seen_joint-of, seen_order-of, seen-IsRanking, seen-KeepsRanking}
use Rattle.best_k.specs.Best.{pair_of, entry_of, entry_reach, total_order}
use Rattle.best_k.specs.Aggregate.{weighed, SumIsBest}
use Rattle.best_k.specs.RunEntries.{run_pair_of, run_entry_of, run_reach, listed, RunSumIsBest}

module _ {W : Type 0} (w : WeightsOn W) (laws : IsWeight w) where
  -- entries of any form that are seen as the total and the marks of a candidate

  module _ {E : Type 0} (pair : E → W × List Mark) (of : (W × List Mark) → E)
      (of_pair : (e : E) → of (pair e) ≡ e) (same : (c : W × List Mark) → pair (of c) ≡ c) (reach : E → ℕ)
      (greatest : Bool) (k : ℕ) (weight : Mark → W) where
    abbrev order : E → E → Ordering
    order a b = total_order w greatest (pair a) (pair b)

    abbrev mul : E → E → E
    mul a b = of (together w.plus (pair a) (pair b))

    abbrev ring : SemiringOn (List E)
    ring = first_k order k (of (no_marks w.nothing)) mul reach

    abbrev one_of_mark : Mark → W → List E
    one_of_mark mark v = first_of order k (of (v, mark ∷ []) ∷ [])

    -- the product of a candidate's marks is its one entry
    made-single : (c : List Mark)
        → product_by ring.one ring.mul (λ m. one_of_mark m (weight m)) c
        ≡ first_of order k (of (total_by w weight c, c) ∷ [])
    made-single [] = refl
    made-single (m ∷ c) =
        ap (λ l. first_of order k (products mul (one_of_mark m (weight m)) l)) (made-single c)
        ∙ first_of-products order (seen-IsRanking w laws pair of of_pair same greatest) (of (no_marks w.nothing)) mul
        (seen-KeepsRanking w laws pair of of_pair same greatest) k (of (weight m, m ∷ []) ∷ [])
        (of (total_by w weight c, c) ∷ [])
        ∙ ap (λ e. first_of order k (e ∷ []))
        (seen_joint-of w laws pair of of_pair same (weight m, m ∷ []) (total_by w weight c, c))

    sum-seen : (cs : List (List Mark))
        → sum_over ring one_of_mark weight cs ≡ first_of order k (map of (weighed w weight cs))
    sum-seen [] = sym (first_of-nil order k)
    sum-seen (c ∷ cs) =
        ap (λ l. first_of order k (l ++ sum_over ring one_of_mark weight cs)) (made-single c)
        ∙ ap (λ l. first_of order k (first_of order k (of (total_by w weight c, c) ∷ []) ++ l)) (sum-seen cs)
        ∙ first_of-append order (seen-IsRanking w laws pair of of_pair same greatest) k
        (of (total_by w weight c, c) ∷ []) (map of (weighed w weight cs))

    sum_is_first : (cs : List (List Mark))
        → sum_over ring one_of_mark weight cs
        ≡ map of (first_of (total_order w greatest) k (weighed w weight cs))
    sum_is_first cs =
        sum-seen cs
        ∙ first_of-map (total_order w greatest) order of (seen_order-of w laws pair of of_pair same greatest) k
        (weighed w weight cs)

  pub sum_is_best : SumIsBest w
  sum_is_best greatest k weight cs =
      sum_is_first pair_of entry_of (λ e. refl) (λ c. refl) (entry_reach w) greatest k weight cs

  pub run_sum_is_best : RunSumIsBest w
  run_sum_is_best greatest k weight cs =
      ap (map listed)
      (sum_is_first run_pair_of run_entry_of (λ e. refl) (λ c. refl) (run_reach w) greatest k weight cs)
      ∙ map-map listed run_entry_of (first_of (total_order w greatest) k (weighed w weight cs))
