-- What a call leaves as it was on the view of its hand, and what it adds: for callers that draw many times.
use Rattle.std.proofs.Common.{◌≡◌, ℕ, ◌+◌, [], ◌∷◌, ◌++◌, subst, sym, ap, ◌∙◌, ⊎_elim, arith}
use mathlib.Core.Logic.{dite}
use native.Mathlib.Decide.{ℕ_discrete}
use Rattle.steal_deal.specs.declared.view.View.{View}
use Rattle.steal_deal.specs.declared.hand.Drawn.{Drawn}
use Rattle.steal_deal.specs.declared.hand.Drawn.TheVariants.{Leaf, Empty}
use Rattle.steal_deal.specs.Views.{copies, found_empty}
use Rattle.steal_deal.specs.Draws.{HasMet, Draws}
use Rattle.steal_deal.proofs.Counting.{copies_push-same, copies_push-other}

module _ (v w : View) (b : ℕ) where
  -- a part of the view that neither list has is kept
  part_kept : {X : Type 0} (part : View → X) → ((y : ℕ) → part (record v { taken = v.taken ++ y ∷ [] }) ≡ part v)
      → part (found_empty v b) ≡ part v → (d : Drawn) → Draws v b d w → part w ≡ part v
  part_kept part leaf empty (Leaf y) drawn = ap part drawn.joins ∙ leaf y
  part_kept part leaf empty Empty drawn = ⊎_elim (λ same. ap part same.1) (λ found. ap part found.joins ∙ empty) drawn

  pub number_kept : (d : Drawn) → Draws v b d w → w.number ≡ v.number
  number_kept d drawn = part_kept (λ (x : View). x.number) (λ y _. v.number) (λ _. v.number) d drawn

  pub partition_kept : (d : Drawn) → Draws v b d w → w.partition ≡ v.partition
  partition_kept d drawn = part_kept (λ (x : View). x.partition) (λ y _. v.partition) (λ _. v.partition) d drawn

  -- a leaf joins `taken`, and nothing else does
  pub taken_grown : (y : ℕ) → Draws v b (Leaf y) w → w.taken ≡ v.taken ++ y ∷ []
  taken_grown y drawn = ap (λ (x : View). x.taken) drawn.joins

  pub taken_kept : Draws v b Empty w → w.taken ≡ v.taken
  taken_kept drawn = ⊎_elim (λ same. ap (λ (x : View). x.taken) same.1)
      (λ found. ap (λ (x : View). x.taken) found.joins) drawn

  -- a block that is met stays met, and one that gave Empty is met
  pub met_kept : (d : Drawn) → Draws v b d w → (c : ℕ) → HasMet v c → HasMet w c
  met_kept (Leaf y) drawn c met = ap (λ (x : View). copies c x.met) drawn.joins ∙ met
  met_kept Empty drawn c met = ⊎_elim
      (λ same. ap (λ (x : View). copies c x.met) same.1 ∙ met)
      (λ found. dite (ℕ_discrete b c)
      (λ is. absurd (let none_yet = found.not_met in let once : copies b v.met ≡ 1 = subst
      (λ (n : ℕ). copies n v.met ≡ 1) (sym is) met in omega arith))
      (λ differ. ap (λ (x : View). copies c x.met) found.joins ∙ (copies_push-other c b v.met differ ∙ met)))
      drawn

  pub met_by_empty : Draws v b Empty w → HasMet w b
  met_by_empty drawn = ⊎_elim
      (λ same. ap (λ (x : View). copies b x.met) same.1 ∙ same.0)
      (λ found. ap (λ (x : View). copies b x.met) found.joins
      ∙ (copies_push-same b v.met ∙ ap (λ (n : ℕ). n + 1) found.not_met))
      drawn
