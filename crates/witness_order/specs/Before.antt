-- Which of two entries of an answer comes first. An entry is the total of a candidate, and the candidate's marks.
use Rattle.std.specs.Prelude.{Bool, true, false, ℤ, List, [], ◌++◌}
use Rattle.std.specs.declared.cmp.Ordering.{Ordering}
use Rattle.std.specs.Ordering.{ordering_then, int_cmp}
use Rattle.shape_gen.specs.declared.mark.Mark.{Mark}
use Rattle.witness_order.specs.Shortlex.{shortlex}

-- the better total first: by this order the greater one where the greatest are asked for, and else the lesser
abbrev pub better_by : {W : Type 0} → (W → W → Ordering) → Bool → W → W → Ordering
better_by order true a b = order b a
better_by order false a b = order a b

abbrev pub better : Bool → ℤ → ℤ → Ordering
better greatest a b = better_by int_cmp greatest a b

-- the total that comes first, and among equal totals the candidate that is first by shortlex
abbrev pub before_by : {W : Type 0} → (W → W → Ordering) → (W × List Mark) → (W × List Mark) → Ordering
before_by totals c d = ordering_then (totals c.0 d.0) (shortlex c.1 d.1)

-- the better total first
abbrev pub before : Bool → (ℤ × List Mark) → (ℤ × List Mark) → Ordering
before greatest c d = before_by (better greatest) c d

-- the entry of no marks, with the total of nothing
abbrev pub no_marks : {W : Type 0} → W → W × List Mark
no_marks nothing = (nothing, [])

-- the entry of the marks of both, one after the other
abbrev pub together : {W : Type 0} → (W → W → W) → (W × List Mark) → (W × List Mark) → W × List Mark
together plus c d = (plus c.0 d.0, c.1 ++ d.1)
