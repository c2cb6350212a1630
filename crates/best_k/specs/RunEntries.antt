-- Entries whose marks are kept as runs. They are seen as a total and a list of marks, just as entries are.
use Rattle.std.specs.Prelude.{◌≡◌, ℕ, Bool, List, [], ◌∷◌, map}
use Rattle.std.specs.declared.cmp.Ordering.{Ordering}
use Rattle.shape_gen.specs.declared.mark.Mark.{Mark}
use Rattle.semiring_kit.specs.Aggregates.{sum_over}
use Rattle.semiring_kit.specs.Semiring.{SemiringOn}
use Rattle.semiring_kit.specs.Weight.{WeightsOn}
use Rattle.witness_order.specs.Before.{no_marks, together}
use Rattle.witness_order.specs.Ranked.{first_of}
use Rattle.first_k.specs.FirstK.{first_k}
use Rattle.best_k.specs.declared.entry.Entry.{Entry}
use Rattle.best_k.specs.declared.run_entry.RunEntry.{RunEntry}
use Rattle.best_k.specs.Aggregate.{weighed}
use Rattle.best_k.specs.Best.{entry_of, total_order}

-- the total and the marks, the run entry of these, and the entry of these

abbrev pub run_pair_of : {W : Type 0} → RunEntry W → W × List Mark
run_pair_of e = (e.total, e.runs)

abbrev pub run_entry_of : {W : Type 0} → (W × List Mark) → RunEntry W
run_entry_of c = record { total = c.0; runs = c.1 }

abbrev pub listed : {W : Type 0} → RunEntry W → Entry W
listed e = entry_of (run_pair_of e)

-- their order, and what two of them joined are

abbrev pub run_order : {W : Type 0} → WeightsOn W → Bool → RunEntry W → RunEntry W → Ordering
run_order w greatest a b = total_order w greatest (run_pair_of a) (run_pair_of b)

abbrev pub run_joint : {W : Type 0} → WeightsOn W → RunEntry W → RunEntry W → RunEntry W
run_joint w a b = run_entry_of (together w.plus (run_pair_of a) (run_pair_of b))

abbrev pub run_reach : {W : Type 0} → WeightsOn W → RunEntry W → ℕ
run_reach w e = w.reach e.total

-- the first k of them, and the one of a mark

abbrev pub runs_of : {W : Type 0} → WeightsOn W → Bool → ℕ → SemiringOn (List (RunEntry W))
runs_of w greatest k =
    first_k (run_order w greatest) k (run_entry_of (no_marks w.nothing)) (run_joint w) (run_reach w)

abbrev pub runs_marked : {W : Type 0} → WeightsOn W → Bool → ℕ → Mark → W → List (RunEntry W)
runs_marked w greatest k mark weight = first_of (run_order w greatest) k (run_entry_of (weight, mark ∷ []) ∷ [])

-- what is listed of their sum is the first k of all candidates, as entries
abbrev pub RunSumIsBest : {W : Type 0} → WeightsOn W → Type 0
RunSumIsBest {W} w = (greatest : Bool) (k : ℕ) (weight : Mark → W) (cs : List (List Mark))
    → map listed (sum_over (runs_of w greatest k) (runs_marked w greatest k) weight cs)
    ≡ map entry_of (first_of (total_order w greatest) k (weighed w weight cs))
