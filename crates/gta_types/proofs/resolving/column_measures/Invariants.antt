use Rattle.std.proofs.Common.{◌≡◌, map}
use Rattle.std.specs.List.{range_with_len}
use Rattle.gta_checked.specs.Plain.{plain_measure}
use Rattle.gta_types.specs.Resolved.{column_measure}
use Rattle.gta_types.proofs.resolving.column_measures.Given as goal

abbrev pub invariant-loop-column : goal.invariant-loop-column
invariant-loop-column l =
    map plain_measure l.measures.items ≡ map column_measure (range_with_len 0 l.column)
