-- The Dealing rule holds when the first hand is made, and a split keeps it.
use Rattle.std.proofs.Common.{◌≡◌, ◌≢◌, ◌⊎◌, ℕ, zero, suc, ◌+◌, ◌-◌, ◌<◌, ◌≤◌, List, [], ◌∷◌, ◌++◌, length}
use Rattle.std.proofs.Common.{slice_index, set, sum_by, inl, inr, ⊎_elim, sym, refl, ap, subst, ◌∙◌, arith}
use mathlib.Core.Option.{some, some-injective, some-ne-none}
use lib.ListN.{get_elem?}
use Rattle.std.proofs.lemmas.List.Sums.{sum_by_push}
use Rattle.atomic_table.specs.Table.{opening, Splits}
use Rattle.atomic_table.proofs.Lists.{at_set}
use Rattle.steal_deal.specs.declared.partition.Partition.{Partition}
use Rattle.steal_deal.specs.declared.view.View.{View}
use Rattle.steal_deal.specs.Partition.{block_begin, block_size, one_below}
use Rattle.steal_deal.specs.Views.{copies, fresh, alone, next, times_taken, times_met}
use Rattle.steal_deal.specs.Rule.{BlockTable, IsAt, AreApart, DealingRule}
use Rattle.steal_deal.proofs.Following.{bounded, met_at_end}
use Rattle.steal_deal.proofs.Counting.{sum_by-set}

-- a list with one more element has the old ones, and the new one at its end
at_end : {X : Type 0} (xs : List X) (x y : X) (i : ℕ) → get_elem? (xs ++ x ∷ []) i ≡ some y
    → (get_elem? xs i ≡ some y) ⊎ ((i ≡ length xs) × (x ≡ y))
at_end [] x y zero here = inr (refl, some-injective x y here)
at_end [] x y (suc i) here = absurd (some-ne-none y (sym here))
at_end (z ∷ zs) x y zero here = inl here
at_end (z ∷ zs) x y (suc i) here = ⊎_elim (λ e. inl e) (λ e. inr (ap suc e.0, e.1)) (at_end zs x y i here)

apart-sym : (v w : View) → AreApart v w → AreApart w v
apart-sym v w apart = ⊎_elim (λ lt. inr lt) (λ lt. inl lt) apart

module _ (p : Partition) (t : BlockTable) (rule : DealingRule p t) (id : ℕ) (v : View) (at : IsAt t id v)
    (some_spare : 0 < v.spare) where
  abbrev views_after : List View
  views_after = set t.views id (alone v) ++ next v ∷ []

  -- the hands after the split
  data HandAfter (i : ℕ) (u : View) : Type 0 where
    parent : i ≡ id → alone v ≡ u → HandAfter i u
    other : i ≢ id → IsAt t i u → HandAfter i u
    child : i ≡ length (set t.views id (alone v)) → next v ≡ u → HandAfter i u

  hand_after : (i : ℕ) (u : View) → get_elem? views_after i ≡ some u → HandAfter i u
  hand_after i u here = ⊎_elim
      (λ old. ⊎_elim (λ e. parent e.0 e.1) (λ e. other e.0 e.1) (at_set t.views id i (alone v) u old))
      (λ new. child new.0 new.1)
      (at_end (set t.views id (alone v)) (next v) u i here)

  partition_kept : (i : ℕ) (u : View) → HandAfter i u → u.partition ≡ p
  partition_kept i u (parent place is) = sym (ap (λ (x : View). x.partition) is) ∙ rule.partition id v at
  partition_kept i u (other place stood) = rule.partition i u stood
  partition_kept i u (child place is) = sym (ap (λ (x : View). x.partition) is) ∙ rule.partition id v at

  below_kept : (i : ℕ) (u : View) → HandAfter i u → u.number + u.spare < p.workers
  below_kept i u (parent place is) = let below = rule.numbers_below id v at in
      subst (λ (x : View). x.number + x.spare < p.workers) is (omega arith)
  below_kept i u (other place stood) = rule.numbers_below i u stood
  below_kept i u (child place is) = let below = rule.numbers_below id v at in
      subst (λ (x : View). x.number + x.spare < p.workers) is (omega arith)

  apart_kept : (i j : ℕ) (u x : View) → i ≢ j → HandAfter i u → HandAfter j x → AreApart u x
  apart_kept i j u x differ (parent place is) (parent other_place other_is) = absurd (differ (place ∙ sym other_place))
  apart_kept i j u x differ (parent place is) (other other_place stood) =
      subst (λ (a : View). AreApart a x) is
      (⊎_elim (λ lt. inl (omega arith)) (λ lt. inr lt)
      (rule.numbers_apart id j v x (λ e. other_place (sym e)) at stood))
  apart_kept i j u x differ (parent place is) (child other_place other_is) =
      subst (λ (a : View). AreApart a x) is (subst (λ (b : View). AreApart (alone v) b) other_is (inl (omega arith)))
  apart_kept i j u x differ (other place stood) (parent other_place other_is) =
      subst (λ (a : View). AreApart u a) other_is
      (⊎_elim (λ lt. inl lt) (λ lt. inr (omega arith)) (rule.numbers_apart i id u v place stood at))
  apart_kept i j u x differ (other place stood) (other other_place other_stood) = rule.numbers_apart i j u x differ
      stood other_stood
  apart_kept i j u x differ (other place stood) (child other_place other_is) =
      subst (λ (a : View). AreApart u a) other_is
      (⊎_elim (λ lt. inl (omega arith)) (λ lt. inr (omega arith)) (rule.numbers_apart i id u v place stood at))
  apart_kept i j u x differ (child place is) (parent other_place other_is) =
      subst (λ (a : View). AreApart a x) is (subst (λ (b : View). AreApart (next v) b) other_is (inr (omega arith)))
  apart_kept i j u x differ (child place is) (other other_place stood) =
      subst (λ (a : View). AreApart a x) is
      (⊎_elim (λ lt. inl (omega arith)) (λ lt. inr (omega arith))
      (rule.numbers_apart id j v x (λ e. other_place (sym e)) at stood))
  apart_kept i j u x differ (child place is) (child other_place other_is) = absurd (differ (place ∙ sym other_place))

  -- what all hands have together, but for the numbers to be given
  sum_kept : (f : View → ℕ) → f (alone v) + f (next v) ≡ f v → sum_by f views_after ≡ sum_by f t.views
  sum_kept f same =
      let more = sum_by_push f (set t.views id (alone v)) (next v) in
      let changed = sum_by-set f t.views id v (alone v) at in
      omega arith

  once_kept : (i : ℕ) (u : View) (b : ℕ) → HandAfter i u → copies b u.met ≤ 1
  once_kept i u b (parent place is) = subst (λ (x : View). copies b x.met ≤ 1) is (rule.met_once id v b at)
  once_kept i u b (other place stood) = rule.met_once i u b stood
  once_kept i u b (child place is) = subst (λ (x : View). copies b x.met ≤ 1) is (omega arith)

  abbrev after : BlockTable
  after = record { words = t.words; homes = t.homes; views = views_after }

  taken_once : (b k : ℕ) → b < p.workers → k < block_size p b
      → times_taken views_after (block_begin p b + k) ≡ one_below (slice_index t.words b) k
  taken_once b k in_range of_block = sum_kept (λ (u : View). copies (block_begin p b + k) u.taken) (omega arith)
      ∙ rule.taken_once b k in_range of_block

  met_once : (i : ℕ) (u : View) (b : ℕ) → IsAt after i u → copies b u.met ≤ 1
  met_once i u b here = once_kept i u b (hand_after i u here)

  met_after : (b : ℕ) → b < p.workers → times_met views_after b ≡ slice_index t.words b - block_size p b
  met_after b in_range = sum_kept (λ (u : View). copies b u.met) (omega arith) ∙ rule.met_after b in_range

  split_rule : DealingRule p after
  split_rule =
      let dealt = sum_kept (λ (u : View). u.spare + 1) (omega arith) ∙ rule.numbers_dealt in
      record {
        words = rule.words;
        partition = λ i u here. partition_kept i u (hand_after i u here);
        numbers_below = λ i u here. below_kept i u (hand_after i u here);
        numbers_apart = λ i j u x differ here there. apart_kept i j u x differ (hand_after i u here)
            (hand_after j x there);
        numbers_dealt = dealt;
        taken_once = taken_once;
        taken_below = λ y past. sum_kept (λ (u : View). copies y u.taken) (omega arith) ∙ rule.taken_below y past;
        met_once = met_once;
        met_after = met_after;
        met_last = met_at_end p after met_after taken_once;
        draws_bounded = bounded p after met_after dealt met_once;
      }

pub split_keeps : (p : Partition) (id : ℕ) (v : View) → 0 < v.spare → Splits (DealingRule p) id v (alone v) (next v)
split_keeps p id v some_spare t rule at = split_rule p t rule id v at some_spare

-- the only hand of a table that was just made
module _ (p : Partition) (some_workers : 0 < p.workers) where
  abbrev first : View
  first = fresh p 0 (p.workers - 1)

  only : (i : ℕ) (u : View) → get_elem? (first ∷ []) i ≡ some u → (i ≡ 0) × (first ≡ u)
  only zero u here = (refl, some-injective first u here)
  only (suc i) u here = absurd (some-ne-none u (sym here))

  pub opening_keeps : (words : List ℕ) → length words ≡ p.workers → ((b : ℕ) → slice_index words b ≡ 0)
      → DealingRule p (opening {S = Unit {0}} words [] first)
  opening_keeps words wide none_drawn = record {
    words = wide;
    partition = λ i u here. sym (ap (λ (x : View). x.partition) (only i u here).1);
    numbers_below = λ i u here. subst (λ (x : View). x.number + x.spare < p.workers) (only i u here).1 (omega arith);
    numbers_apart = λ i j u x differ here there. absurd (differ ((only i u here).0 ∙ sym (only j x there).0));
    numbers_dealt = omega arith;
    taken_once = λ b k in_range of_block. let undrawn = none_drawn b in omega arith;
    taken_below = λ y past. refl;
    met_once = λ i u b here. subst (λ (x : View). copies b x.met ≤ 1) (only i u here).1 (omega arith);
    met_after = λ b in_range. let undrawn = none_drawn b in omega arith;
    met_last = λ i u b k here in_range met of_block. let none_met : copies b u.met ≡ 0 = ap
        (λ (x : View). copies b x.met) (sym (only i u here).1) in absurd (omega arith);
    draws_bounded = λ b in_range. let undrawn = none_drawn b in omega arith;
  }
