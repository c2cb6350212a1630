-- The sums by ranks are the best totals and the best k.
use Rattle.std.proofs.Common.{◌≡◌, ℕ, Bool, true, false, cond, List, [], ◌∷◌, map, Some, option_map, refl, ap, ◌∙◌}
use Rattle.std.specs.List.{fold}
use Rattle.std.specs.Ordering.{is_gt, ordering_then}
use Rattle.std.specs.declared.cmp.Ordering.{Ordering}
use Rattle.shape_gen.specs.declared.mark.Mark.{Mark}
use Rattle.semiring_kit.specs.declared.weight.Lex.{Lex}
use Rattle.semiring_kit.specs.Aggregates.{greatest_lex, sum_over, total_by}
use Rattle.semiring_kit.specs.Chosen.{greater_by}
use Rattle.semiring_kit.specs.ChosenLaws.{greater_by-IsChoice}
use Rattle.semiring_kit.specs.Lex.{lex_order, lexes}
use Rattle.semiring_kit.specs.LexLaws.{lexes-IsWeight}
use Rattle.semiring_kit.specs.RankPlus.{rank_plus}
use Rattle.semiring_kit.proofs.KitSums.{sum_is_greatest_lex}
use Rattle.witness_order.specs.Ranked.{first_of}
use Rattle.witness_order.specs.Shortlex.{shortlex}
use Rattle.witness_order.proofs.Placed.{first_of-map}
use Rattle.best_k.specs.declared.entry.Entry.{Entry}
use Rattle.best_k.specs.Aggregate.{weighed}
use Rattle.best_k.specs.Best.{entry_of, total_order}
use Rattle.best_k.specs.RunEntries.{listed, runs_marked, runs_of}
use Rattle.best_k.proofs.Sums.{run_sum_is_best}
use Rattle.gta_checked.specs.Plain.{PlainChecked}
use Rattle.gta_checked.specs.PlainRows.{PlainRows}
use Rattle.gta_meaning.specs.Kept.{kept}
use Rattle.gta_meaning.specs.Ranks.{best_ranked, foremost, former, rank_before, rank_order}
use Rattle.gta_meaning.specs.Ranks.{ranked_entry, totals_by}
use Rattle.fuse_answer.specs.declared.ranks.Ranks.{Ranks}
use Rattle.fuse_answer.specs.Ranks.{lex_of, list_of, printed, ranked_answer, ranks_weight, signed_lex, totals_answer}
use Rattle.fuse_answer.specs.RankOrder.{compared, order-is, printed-totals, weight-totals}
use Rattle.fuse_answer.specs.TotalLaws.{chosen-fold}

module _ (ranks : Ranks) (checked : PlainChecked) (rows : PlainRows) where
  abbrev of : List Mark → Lex
  of c = total_by lexes (ranks_weight ranks checked rows) c

  abbrev order : List Mark → List Mark → Ordering
  order c d = rank_order checked rows (list_of ranks) c d

  of-order : (c d : List Mark) → lex_order (of d) (of c) ≡ order c d
  of-order c d =
      ap (λ w. lex_order w (of c)) (weight-totals ranks checked rows d)
      ∙ ap (lex_order (compared ranks checked rows d)) (weight-totals ranks checked rows c)
      ∙ order-is ranks checked rows c d

  -- the greatest weight

  cond-out : (b : Bool) (c d : List Mark) → cond b (of d) (of c) ≡ of (cond b d c)
  cond-out true c d = refl
  cond-out false c d = refl

  greater-former : (c d : List Mark) → greater_by lex_order (of c) (of d) ≡ of (former order c d)
  greater-former c d =
      (greater_by-IsChoice lexes lexes-IsWeight).choose_commutative (of c) (of d)
      ∙ ap (λ o. cond (is_gt o) (of d) (of c)) (of-order c d)
      ∙ cond-out (is_gt (order c d)) c d

  fold-foremost : (c : List Mark) (cs : List (List Mark))
      → fold (greater_by lex_order) (of c) (map of cs) ≡ of (fold (former order) c cs)
  fold-foremost c [] = refl
  fold-foremost c (d ∷ cs) =
      ap (λ w. fold (greater_by lex_order) w (map of cs)) (greater-former c d)
      ∙ fold-foremost (former order c d) cs

  greatest-is : (cs : List (List Mark))
      → option_map (signed_lex ranks) (greatest_lex (map of cs))
      ≡ option_map lex_of (option_map (totals_by checked rows (list_of ranks)) (foremost order cs))
  greatest-is [] = refl
  greatest-is (c ∷ cs) =
      ap (option_map (signed_lex ranks))
      (chosen-fold (greater_by lex_order) (greater_by-IsChoice lexes lexes-IsWeight).choose_associative (of c)
      (map of cs))
      ∙ ap (λ w. Some (signed_lex ranks w)) (fold-foremost c cs)
      ∙ ap Some (printed-totals ranks checked rows (fold (former order) c cs))

  pub sum-is_best_totals :
      option_map (signed_lex ranks)
      (sum_over rank_plus (λ mark weight. Some weight) (ranks_weight ranks checked rows) (kept checked rows))
      ≡ totals_answer ranks checked rows
  sum-is_best_totals =
      ap (option_map (signed_lex ranks)) (sum_is_greatest_lex (ranks_weight ranks checked rows) (kept checked rows))
      ∙ greatest-is (kept checked rows)

  -- the first k

  keeps : (c d : List Mark)
      → total_order lexes true (of c, c) (of d, d) ≡ rank_before checked rows (list_of ranks) c d
  keeps c d = ap (λ o. ordering_then o (shortlex c d)) (of-order c d)

  printed-all : (cs : List (List Mark))
      → map (printed ranks) (map entry_of (weighed lexes (ranks_weight ranks checked rows) cs))
      ≡ map ranked_answer (map (ranked_entry checked rows (list_of ranks)) cs)
  printed-all [] = refl
  printed-all (c ∷ cs) =
      let entry : Lex → Entry Lex = λ total. record { total = total; witness = c } in
      ap (λ t. entry t ∷ map (printed ranks) (map entry_of (weighed lexes (ranks_weight ranks checked rows) cs)))
      (printed-totals ranks checked rows c)
      ∙ ap (λ es. entry (lex_of (totals_by checked rows (list_of ranks) c)) ∷ es) (printed-all cs)

  pub sum-is_best_ranked : (k : ℕ)
      → map (printed ranks) (map listed (sum_over (runs_of lexes true k) (runs_marked lexes true k)
      (ranks_weight ranks checked rows) (kept checked rows)))
      ≡ map ranked_answer (best_ranked checked rows k (list_of ranks))
  sum-is_best_ranked k =
      let order_by = rank_before checked rows (list_of ranks) in
      ap (map (printed ranks))
      (run_sum_is_best lexes lexes-IsWeight true k (ranks_weight ranks checked rows) (kept checked rows))
      ∙ ap (λ es. map (printed ranks) (map entry_of es))
      (first_of-map order_by (total_order lexes true) (λ c. (of c, c)) keeps k (kept checked rows))
      ∙ printed-all (first_of order_by k (kept checked rows))
