-- The weights of candidates are their totals, and the one that is chosen of a list is the fold of the choice.
use Rattle.std.proofs.Common.{◌≡◌, ℕ, ◌+ℤ◌, List, [], ◌∷◌, map, Option, Some, None, refl, sym, ap, ◌∙◌}
use Rattle.std.specs.List.{fold}
use Rattle.semiring_kit.specs.Aggregates.{chosen_of, total_weight}
use Rattle.semiring_kit.specs.Chosen.{chosen}
use Rattle.semiring_kit.specs.Weight.{numbers}
use Rattle.shape_gen.specs.declared.mark.Mark.{Mark}
use Rattle.gta_checked.specs.PlainRows.{PlainRows}
use Rattle.gta_checked.specs.Plain.{PlainChecked}
use Rattle.best_k.specs.Aggregate.{weighed}
use Rattle.gta_meaning.specs.Answers.{entry_of, totals}
use Rattle.gta_meaning.specs.Kept.{kept}
use Rattle.gta_meaning.specs.Values.{total}
use Rattle.fuse_answer.specs.Weighed.{value_at}

module _ {W : Type 0} (choose : W → W → W) (associative : (a b c : W) → choose (choose a b) c ≡ choose a (choose b c))
  where
    regroup : (w v : W) (rest : Option W)
        → chosen choose (Some w) (chosen choose (Some v) rest) ≡ chosen choose (Some (choose w v)) rest
    regroup w v None = refl
    regroup w v (Some u) = ap Some (sym (associative w v u))

    pub chosen-fold : (w : W) (ws : List W)
        → chosen choose (Some w) (chosen_of choose ws) ≡ Some (fold choose w ws)
    chosen-fold w [] = refl
    chosen-fold w (v ∷ vs) = regroup w v (chosen_of choose vs) ∙ chosen-fold (choose w v) vs

module _ (checked : PlainChecked) (rows : PlainRows) (measure : ℕ) where
  weight-total : (c : List Mark) → total_weight (value_at checked rows measure) c ≡ total checked rows measure c
  weight-total [] = refl
  weight-total (m ∷ ms) = ap (λ t. value_at checked rows measure m +ℤ t) (weight-total ms)

  weights-totals : (cs : List (List Mark))
      → map (total_weight (value_at checked rows measure)) cs ≡ map (total checked rows measure) cs
  weights-totals [] = refl
  weights-totals (c ∷ cs) =
      ap (λ t. t ∷ map (total_weight (value_at checked rows measure)) cs) (weight-total c)
      ∙ ap (λ ts. total checked rows measure c ∷ ts) (weights-totals cs)

  -- the weights of the candidates that pass are their totals
  pub kept-totals : map (total_weight (value_at checked rows measure)) (kept checked rows) ≡ totals checked rows measure
  kept-totals = weights-totals (kept checked rows)

  -- candidates with their weights are candidates with their totals
  pub weighed-entries : (cs : List (List Mark))
      → weighed numbers (value_at checked rows measure) cs ≡ map (entry_of checked rows measure) cs
  weighed-entries [] = refl
  weighed-entries (c ∷ cs) =
      ap (λ t. (t, c) ∷ weighed numbers (value_at checked rows measure) cs) (weight-total c)
      ∙ ap (λ es. entry_of checked rows measure c ∷ es) (weighed-entries cs)
