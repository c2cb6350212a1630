-- What the best k entries add up to over a list of candidates.
use Rattle.std.specs.Prelude.{◌≡◌, ℕ, Bool, List, map}
use Rattle.shape_gen.specs.declared.mark.Mark.{Mark}
use Rattle.semiring_kit.specs.Aggregates.{sum_over, total_by}
use Rattle.semiring_kit.specs.Weight.{WeightsOn}
use Rattle.witness_order.specs.Ranked.{first_of}
use Rattle.best_k.specs.Best.{entry_of, best_of, marked, total_order}

-- the total weight of each candidate, and its marks
abbrev pub weighed : {W : Type 0} → WeightsOn W → (Mark → W) → List (List Mark) → List (W × List Mark)
weighed w weight cs = map (λ c. (total_by w weight c, c)) cs

-- the sum is the first k of all candidates, as entries
abbrev pub SumIsBest : {W : Type 0} → WeightsOn W → Type 0
SumIsBest {W} w = (greatest : Bool) (k : ℕ) (weight : Mark → W) (cs : List (List Mark))
    → sum_over (best_of w greatest k) (marked w greatest k) weight cs
    ≡ map entry_of (first_of (total_order w greatest) k (weighed w weight cs))
