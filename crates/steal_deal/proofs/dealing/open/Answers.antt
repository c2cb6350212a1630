use Rattle.std.proofs.Common.{◌≡◌, ℕ, zero, suc, refl, List, take, replicate, slice_index, ap, ◌∙◌, arith}
use Rattle.std.proofs.lemmas.Grind.{common_steps}
use Rattle.steal_deal.proofs.Splitting.{opening_keeps}
use Rattle.steal_deal.proofs.dealing.open.Goals as goal

-- the first words of a row of zeros
zeros : (n k b : ℕ) → slice_index (take k (replicate n 0)) b ≡ 0
zeros n zero b = refl
zeros zero (suc k) b = refl
zeros (suc n) (suc k) zero = refl
zeros (suc n) (suc k) (suc b) = zeros n k b

pub of_words-requires : goal.of_words-requires
of_words-requires c = opening_keeps _ c.requires.some_workers _
    (let few = c.requires.few_workers in let row = c.no_draws-words.ensures in grind (arith, common_steps))
    (λ b. ap (λ (l : List ℕ). slice_index (take c.args.workers l) b) c.no_draws-words.ensures
    ∙ zeros 64 c.args.workers b)
