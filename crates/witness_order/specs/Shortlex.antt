-- The shortlex order of candidates.
use Rattle.std.specs.Prelude.{List, length}
use Rattle.std.specs.declared.cmp.Ordering.{Ordering}
use Rattle.std.specs.Ordering.{ordering_then, nat_cmp}
use Rattle.std.specs.Cmp.Lexicographic.{slice_cmp}
use Rattle.shape_gen.specs.declared.mark.Mark.{Mark}

-- marks compare by row, then by label
abbrev pub mark_order : Mark → Mark → Ordering
mark_order x y = ordering_then (nat_cmp x.row y.row) (nat_cmp x.label y.label)

-- the shorter list first, and among lists of one length by the first place where they differ
abbrev pub shortlex_by : {X : Type 0} → (X → X → Ordering) → List X → List X → Ordering
shortlex_by order xs ys = ordering_then (nat_cmp (length xs) (length ys)) (slice_cmp order xs ys)

abbrev pub shortlex : List Mark → List Mark → Ordering
shortlex xs ys = shortlex_by mark_order xs ys
