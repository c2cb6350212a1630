-- A draw keeps the Dealing rule, whether it gives a number or finds none, and no word wraps.
use Rattle.std.proofs.Common.{◌≡◌, ◌≢◌, ℕ, ◌+◌, ◌-◌, ◌%◌, ◌^◌, ◌<◌, ◌≤◌, List, slice_index, set, sum_by, [], ◌∷◌}
use Rattle.std.proofs.Common.{◌++◌, inl, inr, ⊎_elim, sym, refl, ap, subst, ◌∙◌, lt_of_not-le, length-set}
use Rattle.std.proofs.Common.{get_or-set_same, get_or-set_other, arith}
use mathlib.Core.Option.{some, none}
use mathlib.Core.Logic.{dite}
use native.Mathlib.Decide.{dec_le, ℕ_discrete}
use lib.ListN.{get_elem?}
use Rattle.atomic_table.specs.Table.{Me, keeps, step, Allows}
use Rattle.atomic_table.proofs.Lists.{at_set}
use Rattle.steal_deal.specs.declared.partition.Partition.{Partition}
use Rattle.steal_deal.specs.declared.view.View.{View}
use Rattle.steal_deal.specs.Partition.{block_begin, block_size, one_below}
use Rattle.steal_deal.specs.Views.{copies, gained, found_empty, times_taken, times_met}
use Rattle.steal_deal.specs.Rule.{BlockTable, IsAt, AreApart, DealingRule}
use Rattle.steal_deal.specs.Draws.{NotMet}
use Rattle.steal_deal.specs.Steps.{draws}
use Rattle.steal_deal.proofs.Partitions.{ends_within, places_differ}
use Rattle.steal_deal.proofs.Following.{bounded, met_at_end}
use Rattle.steal_deal.proofs.Counting.{sum_by-set, copies_push-same, copies_push-other}

-- the table after a draw from block b by the hand at a place, which then has view w
abbrev after_draw : BlockTable → ℕ → ℕ → View → BlockTable
after_draw t b id w = record
    { words = set t.words b (slice_index t.words b + 1); homes = t.homes; views = set t.views id w }

module _ (p : Partition) (t : BlockTable) (rule : DealingRule p t) (id : ℕ) (v : View) (at : IsAt t id v) (b : ℕ)
    (in_range : b < p.workers) where
  -- the draws made on the block, and the words after one more
  abbrev n : ℕ
  n = slice_index t.words b

  abbrev words_after : List ℕ
  words_after = set t.words b (n + 1)

  word_drawn : slice_index words_after b ≡ n + 1
  word_drawn = let wide = rule.words in get_or-set_same t.words b (n + 1) 0 (omega arith)

  word_else : (c : ℕ) → c ≢ b → slice_index words_after c ≡ slice_index t.words c
  word_else c differ = get_or-set_other t.words b c (n + 1) 0 differ

  -- a hand stood in this place before the draw, of the same worker numbers
  pub record StoodBefore (i : ℕ) (u : View) : Type 0 where
    pub was : View
    pub stood : IsAt t i was
    pub partition : u.partition ≡ was.partition
    pub number : u.number ≡ was.number
    pub spare : u.spare ≡ was.spare

  module _ (w : View) (same_partition : w.partition ≡ v.partition) (same_number : w.number ≡ v.number)
      (same_spare : w.spare ≡ v.spare) where
    stood : (i : ℕ) (u : View) → get_elem? (set t.views id w) i ≡ some u → StoodBefore i u
    stood i u here = ⊎_elim
        (λ e. record {
          was = v;
          stood = subst (λ (n : ℕ). IsAt t n v) (sym e.0) at;
          partition = sym (ap (λ (x : View). x.partition) e.1) ∙ same_partition;
          number = sym (ap (λ (x : View). x.number) e.1) ∙ same_number;
          spare = sym (ap (λ (x : View). x.spare) e.1) ∙ same_spare;
        })
        (λ e. record { was = u; stood = e.1; partition = refl; number = refl; spare = refl })
        (at_set t.views id i w u here)

    partition_kept : (i : ℕ) (u : View) → get_elem? (set t.views id w) i ≡ some u → u.partition ≡ p
    partition_kept i u here = let s = stood i u here in s.partition ∙ rule.partition i s.was s.stood

    below_kept : (i : ℕ) (u : View) → get_elem? (set t.views id w) i ≡ some u → u.number + u.spare < p.workers
    below_kept i u here =
        let s = stood i u here in
        let below = rule.numbers_below i s.was s.stood in
        let number = s.number in
        let spare = s.spare in
        omega arith

    apart_kept : (i j : ℕ) (u x : View) → i ≢ j → get_elem? (set t.views id w) i ≡ some u
        → get_elem? (set t.views id w) j ≡ some x → AreApart u x
    apart_kept i j u x differ here there =
        let s = stood i u here in
        let r = stood j x there in
        let number = s.number in
        let spare = s.spare in
        let other_number = r.number in
        let other_spare = r.spare in
        ⊎_elim (λ lt. inl (omega arith)) (λ lt. inr (omega arith))
        (rule.numbers_apart i j s.was r.was differ s.stood r.stood)

    dealt_kept : sum_by (λ (u : View). u.spare + 1) (set t.views id w) ≡ p.workers
    dealt_kept = let changed = sum_by-set (λ (u : View). u.spare + 1) t.views id v w at in let dealt =
        rule.numbers_dealt in let same = same_spare in omega arith

  module _ (inside : n < block_size p b) where
    abbrev y : ℕ
    y = block_begin p b + n

    taken_after : (x : ℕ)
        → times_taken (set t.views id (gained v y)) x + copies x v.taken ≡ times_taken t.views x + copies x
        (v.taken ++ y ∷ [])
    taken_after x = sum_by-set (λ (u : View). copies x u.taken) t.views id v (gained v y) at

    taken_here : times_taken (set t.views id (gained v y)) y ≡ times_taken t.views y + 1
    taken_here = let changed = taken_after y in let one_more = copies_push-same y v.taken in omega arith

    taken_else : (x : ℕ) → y ≢ x → times_taken (set t.views id (gained v y)) x ≡ times_taken t.views x
    taken_else x differ = let changed = taken_after x in let same = copies_push-other x y v.taken differ in omega arith

    once_kept : (c k : ℕ) → c < p.workers → k < block_size p c
        → times_taken (set t.views id (gained v y)) (block_begin p c + k) ≡ one_below (slice_index words_after c) k
    once_kept c k c_in_range of_block =
        let before = rule.taken_once c k c_in_range of_block in
        dite (ℕ_discrete c b)
        (λ same_block. dite (ℕ_discrete k n)
        (λ same_place.
        let here : block_begin p c + k ≡ y = λ i. block_begin p (same_block i) + same_place i in
        let word : slice_index words_after c ≡ n + 1 = ap (slice_index words_after) same_block ∙ word_drawn in
        let was : slice_index t.words c ≡ n = ap (slice_index t.words) same_block in
        let gain : times_taken (set t.views id (gained v y)) (block_begin p c + k) ≡ times_taken t.views
        (block_begin p c + k) + 1 =
        subst (λ (x : ℕ). times_taken (set t.views id (gained v y)) x ≡ times_taken t.views x + 1) (sym here)
        taken_here in
        omega arith)
        (λ other_place.
        let word : slice_index words_after c ≡ n + 1 = ap (slice_index words_after) same_block ∙ word_drawn in
        let was : slice_index t.words c ≡ n = ap (slice_index t.words) same_block in
        let begin : block_begin p c ≡ block_begin p b = ap (block_begin p) same_block in
        let same = taken_else (block_begin p c + k) (λ e. other_place (omega arith)) in
        omega arith))
        (λ other_block.
        let word = word_else c other_block in
        let same = taken_else (block_begin p c + k)
        (λ e. places_differ p b c n k (λ f. other_block (sym f)) inside of_block e) in
        omega arith)

    met_once_kept : (i : ℕ) (u : View) (c : ℕ) → get_elem? (set t.views id (gained v y)) i ≡ some u → copies c u.met ≤ 1
    met_once_kept i u c here = ⊎_elim
        (λ e. subst (λ (x : View). copies c x.met ≤ 1) e.1 (rule.met_once id v c at))
        (λ e. rule.met_once i u c e.1)
        (at_set t.views id i (gained v y) u here)

    met_after_kept : (c : ℕ) → c < p.workers
        → times_met (set t.views id (gained v y)) c ≡ slice_index words_after c - block_size p c
    met_after_kept c c_in_range =
        let changed = sum_by-set (λ (u : View). copies c u.met) t.views id v (gained v y) at in
        let before = rule.met_after c c_in_range in
        dite (ℕ_discrete c b)
        (λ same_block.
        let word : slice_index words_after c ≡ n + 1 = ap (slice_index words_after) same_block ∙ word_drawn in
        let was : slice_index t.words c ≡ n = ap (slice_index t.words) same_block in
        let size : block_size p c ≡ block_size p b = ap (block_size p) same_block in
        omega arith)
        (λ other_block. let word = word_else c other_block in omega arith)

    pub gives : DealingRule p (after_draw t b id (gained v y))
    gives =
        let after = after_draw t b id (gained v y) in
        let dealt = dealt_kept (gained v y) refl refl refl in
        record {
          words = length-set t.words b (n + 1) ∙ rule.words;
          partition = partition_kept (gained v y) refl refl refl;
          numbers_below = below_kept (gained v y) refl refl refl;
          numbers_apart = apart_kept (gained v y) refl refl refl;
          numbers_dealt = dealt;
          taken_once = once_kept;
          taken_below = λ x past. let within = ends_within p b in_range in taken_else x (λ e. omega arith)
              ∙ rule.taken_below x past;
          met_once = met_once_kept;
          met_after = met_after_kept;
          met_last = met_at_end p after met_after_kept once_kept;
          draws_bounded = bounded p after met_after_kept dealt met_once_kept;
        }

  module _ (past : block_size p b ≤ n) (not_met : NotMet v b) where
    met_after : (c : ℕ) → times_met (set t.views id (found_empty v b)) c + copies c v.met ≡ times_met t.views c +
        copies c (v.met ++ b ∷ [])
    met_after c = sum_by-set (λ (u : View). copies c u.met) t.views id v (found_empty v b) at

    met_here : times_met (set t.views id (found_empty v b)) b ≡ times_met t.views b + 1
    met_here = let changed = met_after b in let one_more = copies_push-same b v.met in omega arith

    met_else : (c : ℕ) → b ≢ c → times_met (set t.views id (found_empty v b)) c ≡ times_met t.views c
    met_else c differ = let changed = met_after c in let same = copies_push-other c b v.met differ in omega arith

    same_taken : (x : ℕ) → times_taken (set t.views id (found_empty v b)) x ≡ times_taken t.views x
    same_taken x = let changed = sum_by-set (λ (u : View). copies x u.taken) t.views id v (found_empty v b) at in
        omega arith

    once_each : (c : ℕ) → copies c (v.met ++ b ∷ []) ≤ 1
    once_each c = dite (ℕ_discrete b c)
        (λ same. let here : copies b (v.met ++ b ∷ []) ≤ 1 = let one_more = copies_push-same b v.met in
        let none_yet : copies b v.met ≡ 0 = not_met in omega arith in
        subst (λ (x : ℕ). copies x (v.met ++ b ∷ []) ≤ 1) same here)
        (λ differ. let same = copies_push-other c b v.met differ in let once = rule.met_once id v c at in omega arith)

    none_taken : (c k : ℕ) → c < p.workers → k < block_size p c
        → times_taken (set t.views id (found_empty v b)) (block_begin p c + k) ≡ one_below (slice_index words_after c) k
    none_taken c k c_in_range of_block =
        let same = same_taken (block_begin p c + k) in
        let before = rule.taken_once c k c_in_range of_block in
        dite (ℕ_discrete c b)
        (λ same_block.
        let word : slice_index words_after c ≡ n + 1 = ap (slice_index words_after) same_block ∙ word_drawn in
        let was : slice_index t.words c ≡ n = ap (slice_index t.words) same_block in
        let size : block_size p c ≡ block_size p b = ap (block_size p) same_block in
        omega arith)
        (λ other_block. let word = word_else c other_block in omega arith)

    met_at_most_once : (i : ℕ) (u : View) (c : ℕ) → get_elem? (set t.views id (found_empty v b)) i ≡ some u
        → copies c u.met ≤ 1
    met_at_most_once i u c here = ⊎_elim
        (λ e. subst (λ (x : View). copies c x.met ≤ 1) e.1 (once_each c))
        (λ e. rule.met_once i u c e.1)
        (at_set t.views id i (found_empty v b) u here)

    one_more_met : (c : ℕ) → c < p.workers
        → times_met (set t.views id (found_empty v b)) c ≡ slice_index words_after c - block_size p c
    one_more_met c c_in_range =
        let before = rule.met_after c c_in_range in
        dite (ℕ_discrete c b)
        (λ same_block.
        subst (λ (d : ℕ). times_met (set t.views id (found_empty v b)) d ≡ slice_index words_after d - block_size p
        d) (sym same_block)
        (let word = word_drawn in let more = met_here in let here = rule.met_after b in_range in let all : block_size
        p b ≤ n = past in omega arith))
        (λ other_block. let word = word_else c other_block in let same = met_else c (λ e. other_block (sym e)) in
        omega arith)

    pub finds_none : DealingRule p (after_draw t b id (found_empty v b))
    finds_none =
        let after = after_draw t b id (found_empty v b) in
        let dealt = dealt_kept (found_empty v b) refl refl refl in
        record {
          words = length-set t.words b (n + 1) ∙ rule.words;
          partition = partition_kept (found_empty v b) refl refl refl;
          numbers_below = below_kept (found_empty v b) refl refl refl;
          numbers_apart = apart_kept (found_empty v b) refl refl refl;
          numbers_dealt = dealt;
          taken_once = none_taken;
          taken_below = λ x above. same_taken x ∙ rule.taken_below x above;
          met_once = met_at_most_once;
          met_after = one_more_met;
          met_last = met_at_end p after one_more_met none_taken;
          draws_bounded = bounded p after one_more_met dealt met_at_most_once;
        }

-- a word that counts draws can count one more
fits_one_more : (n : ℕ) → n < 18446744073709551615 → n + 1 ≡ (n + 1) % 2 ^ 64
fits_one_more n small = omega arith

module _ (slots id : ℕ) (me : Me (Unit {0}) View) (b : ℕ) where
  pub draw_keeps : NotMet me.0 b → b < me.0.partition.workers → me.0.partition.workers ≤ 64
      → me.0.partition.count < 4294967296
      → Allows (DealingRule me.0.partition) slots id me b (λ n. (n + 1) % 2 ^ 64) (draws (step slots b 1 0 none) me)
  draw_keeps not_met in_range few small t rule _ at _ =
      let p = me.0.partition in
      let n : ℕ = slice_index t.words b in
      let within = ends_within p b in_range in
      let bounded = rule.draws_bounded b in_range in
      let counts : n + 1 ≡ (n + 1) % 2 ^ 64 = fits_one_more n (omega arith) in
      dite (dec_le (block_size p b) n)
      (λ past. (
        found_empty me.0 b,
        keeps,
        tt,
        subst (λ (m : ℕ). DealingRule p record
            { words = set t.words b m; homes = t.homes; views = set t.views id (found_empty me.0 b) }) counts
            (finds_none p t rule id me.0 at b in_range past not_met),
        record {
          before = record { blocks = t; rule = rule; place = id; hand = at };
          word = refl;
          gives = λ inside. absurd (omega arith);
          finds_none = λ _. refl;
        },
      ))
      (λ not_past. let inside = lt_of_not-le not_past in (
        gained me.0 (block_begin p b + n),
        keeps,
        tt,
        subst (λ (m : ℕ). DealingRule p record
            { words = set t.words b m; homes = t.homes; views = set t.views id (gained me.0 (block_begin p b + n)) })
            counts
            (gives p t rule id me.0 at b in_range inside),
        record {
          before = record { blocks = t; rule = rule; place = id; hand = at };
          word = refl;
          gives = λ _. refl;
          finds_none = λ past. absurd (not_past past);
        },
      ))

  pub draw_allowed : (key p : Partition) → key ≡ p → p ≡ me.0.partition → NotMet me.0 b → b < p.workers
      → p.workers ≤ 64 → p.count < 4294967296
      → Allows (DealingRule key) slots id me b (λ n. (n + 1) % 2 ^ 64) (draws (step slots b 1 0 none) me)
  draw_allowed key p key_is known not_met in_range few small =
      let workers : p.workers ≡ me.0.partition.workers = ap (λ (q : Partition). q.workers) known in
      let count : p.count ≡ me.0.partition.count = ap (λ (q : Partition). q.count) known in
      subst (λ (q : Partition). Allows (DealingRule q) slots id me b (λ n. (n + 1) % 2 ^ 64)
      (draws (step slots b 1 0 none) me)) (sym (key_is ∙ known))
      (draw_keeps not_met (omega arith) (omega arith) (omega arith))
