-- The marks of the best list have labels that are declared.
use Rattle.std.proofs.Common.{◌≡◌, ℕ, suc, ◌<◌, Bool, true, false, List, [], ◌∷◌, map, length, All, ℤ}
use Rattle.std.proofs.Common.{refl, arith}
use Rattle.std.specs.Ordering.{is_gt}
use Rattle.std.specs.declared.cmp.Ordering.{Ordering}
use Rattle.std.proofs.lemmas.List.Elements.{All-nil, All-cons, All-filter, All-map, All-take, All-weaker}
use Rattle.shape_gen.specs.declared.mark.Mark.{Mark}
use Rattle.witness_order.specs.Before.{before}
use Rattle.witness_order.specs.Ranked.{first_of, placed, ranked}
use Rattle.semiring_kit.specs.declared.weight.Lex.{Lex}
use Rattle.best_k.specs.declared.entry.Entry.{Entry}
use Rattle.best_k.specs.Best.{entry_of}
use Rattle.gta_checked.specs.PlainRows.{PlainRows}
use Rattle.gta_checked.specs.Plain.{PlainChecked}
use Rattle.gta_checked.specs.declared.resolved.Rank.{Rank}
use Rattle.gta_meaning.specs.Answers as answers
use Rattle.gta_meaning.specs.Answers.{best}
use Rattle.gta_meaning.specs.InRange.{IsInRangeOf, IsMarkInRange, label_count}
use Rattle.gta_meaning.specs.Kept.{generated, kept}
use Rattle.gta_meaning.specs.Ranks.{best_ranked, rank_before, ranked_entry}
use Rattle.gta_meaning.specs.Tests.{passes}
use Rattle.gta_meaning.proofs.Generated.{generated-IsInRangeOf}
use Rattle.fuse_answer.specs.Ranks.{ranked_answer}
use Rattle.report_text.specs.Texts.{AreLabelled}

by_test : {A : Type 0} (b : Bool) → (b ≡ true → A) → (b ≡ false → A) → A
by_test true t f = t refl
by_test false t f = f refl

-- what holds of each item holds of each that is left

module _ {X : Type 0} (P : X → Type 0) where
  all_placed : (cmp : X → X → Ordering) (x : X) (xs : List X) → P x → All P xs → All P (placed cmp x xs)
  all_placed cmp x [] here all = All-cons P x [] here all
  all_placed cmp x (y ∷ ys) here all =
      let first = all 0 y (omega arith) in
      let rest : All P ys = λ k d below. all (suc k) d (omega arith) in
      by_test (is_gt (cmp x y))
      (λ t. rw t (All-cons P y (placed cmp x ys) first (all_placed cmp x ys here rest)))
      (λ f. rw f (All-cons P x (y ∷ ys) here all))

  all_ranked : (cmp : X → X → Ordering) (xs : List X) → All P xs → All P (ranked cmp xs)
  all_ranked cmp [] all = All-nil P
  all_ranked cmp (x ∷ xs) all =
      all_placed cmp x (ranked cmp xs) (all 0 x (omega arith))
      (all_ranked cmp xs (λ k d below. all (suc k) d (omega arith)))

module _ (checked : PlainChecked) (rows : PlainRows) where
  labelled : (marks : List Mark) → IsInRangeOf checked rows marks → AreLabelled checked.labels marks
  labelled marks in_range some =
      All-weaker (IsMarkInRange rows.count (label_count checked)) (λ mark. mark.label < length checked.labels)
      (λ mark within. omega (arith, within.label, some)) marks in_range.each

  pub kept-labelled : All (AreLabelled checked.labels) (kept checked rows)
  kept-labelled =
      All-filter (passes checked rows) (AreLabelled checked.labels) (generated checked rows)
      (All-weaker (IsInRangeOf checked rows) (AreLabelled checked.labels) labelled (generated checked rows)
      (generated-IsInRangeOf checked rows))

  pub best-labelled : (k measure : ℕ) (greatest : Bool)
      → All (λ (entry : Entry ℤ). AreLabelled checked.labels entry.witness)
      (map entry_of (best checked rows k greatest measure))
  best-labelled k measure greatest =
      let entries = map (answers.entry_of checked rows measure) (kept checked rows) in
      let P : (ℤ × List Mark) → Type 0 = λ e. AreLabelled checked.labels e.1 in
      All-map (λ (entry : Entry ℤ). AreLabelled checked.labels entry.witness) entry_of
      (best checked rows k greatest measure)
      (All-take P k (ranked (before greatest) entries)
      (all_ranked P (before greatest) entries
      (All-map P (answers.entry_of checked rows measure) (kept checked rows) kept-labelled)))

  pub ranked-labelled : (k : ℕ) (ranks : List Rank)
      → All (λ (entry : Entry Lex). AreLabelled checked.labels entry.witness)
      (map ranked_answer (best_ranked checked rows k ranks))
  ranked-labelled k ranks =
      let order = rank_before checked rows ranks in
      let P : (List ℤ × List Mark) → Type 0 = λ e. AreLabelled checked.labels e.1 in
      All-map (λ (entry : Entry Lex). AreLabelled checked.labels entry.witness) ranked_answer
      (best_ranked checked rows k ranks)
      (All-map P (ranked_entry checked rows ranks) (first_of order k (kept checked rows))
      (All-take (AreLabelled checked.labels) k (ranked order (kept checked rows))
      (all_ranked (AreLabelled checked.labels) order (kept checked rows) kept-labelled)))
