use Rattle.std.proofs.Common.{◌≡◌}
use Rattle.std.specs.List.{flat_map, range_with_len}
use Rattle.test_homs.specs.Prepared.{row_letters}
use Rattle.test_homs.proofs.kind.letters_of.Given as goal

-- the letters of the rows so far
abbrev pub invariant-loop-row : goal.invariant-loop-row
invariant-loop-row g l =
    l.letters.items
    ≡ flat_map (row_letters (g.K.Kind.hom l.kind) (g.K.Kind.rows l.kind) l.labels) (range_with_len 0 l.row)
