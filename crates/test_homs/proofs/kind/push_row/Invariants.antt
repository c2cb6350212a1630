use Rattle.std.proofs.Common.{◌≡◌, ◌++◌, map}
use Rattle.std.specs.List.{range_with_len}
use Rattle.test_homs.proofs.kind.push_row.Given as goal

-- the letters of the labels so far
abbrev pub invariant-loop-label : goal.invariant-loop-label
invariant-loop-label g l =
    l.letters.items
    ≡ l.fn.letters.items
    ++ map ((g.K.Kind.hom l.kind).letter (g.K.Kind.rows l.kind) l.row) (range_with_len 0 l.label)
