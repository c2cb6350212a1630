-- The semiring of the best k entries.
use Rattle.std.specs.Prelude.{ℕ, Bool, List, [], ◌∷◌}
use Rattle.std.specs.declared.cmp.Ordering.{Ordering}
use Rattle.shape_gen.specs.declared.mark.Mark.{Mark}
use Rattle.witness_order.specs.Before.{before_by, better_by, no_marks, together}
use Rattle.witness_order.specs.Ranked.{first_of}
use Rattle.semiring_kit.specs.Semiring.{SemiringOn}
use Rattle.semiring_kit.specs.Weight.{WeightsOn}
use Rattle.best_k.specs.declared.entry.Entry.{Entry}
use Rattle.first_k.specs.FirstK.{first_k}

-- the total and the marks of an entry, and the entry of these

abbrev pub pair_of : {W : Type 0} → Entry W → W × List Mark
pair_of e = (e.total, e.witness)

abbrev pub entry_of : {W : Type 0} → (W × List Mark) → Entry W
entry_of c = record { total = c.0; witness = c.1 }

-- the better total first, and among equal totals the candidate that is first by shortlex
abbrev pub total_order : {W : Type 0} → WeightsOn W → Bool → (W × List Mark) → (W × List Mark) → Ordering
total_order w greatest c d = before_by (better_by w.order greatest) c d

abbrev pub entry_order : {W : Type 0} → WeightsOn W → Bool → Entry W → Entry W → Ordering
entry_order w greatest a b = total_order w greatest (pair_of a) (pair_of b)

-- the entry of both candidates joined
abbrev pub joint : {W : Type 0} → WeightsOn W → Entry W → Entry W → Entry W
joint w a b = entry_of (together w.plus (pair_of a) (pair_of b))

-- how far the total of an entry reaches
abbrev pub entry_reach : {W : Type 0} → WeightsOn W → Entry W → ℕ
entry_reach w e = w.reach e.total

-- the best k entries: those of the greatest totals, or of the least
abbrev pub best_of : {W : Type 0} → WeightsOn W → Bool → ℕ → SemiringOn (List (Entry W))
best_of w greatest k =
    first_k (entry_order w greatest) k (entry_of (no_marks w.nothing)) (joint w) (entry_reach w)

-- the one entry of a mark
abbrev pub marked : {W : Type 0} → WeightsOn W → Bool → ℕ → Mark → W → List (Entry W)
marked w greatest k mark weight = first_of (entry_order w greatest) k (entry_of (weight, mark ∷ []) ∷ [])
