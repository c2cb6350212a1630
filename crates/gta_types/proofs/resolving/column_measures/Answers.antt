use Rattle.std.proofs.Common.{[], ◌∷◌, map, refl, ap, ◌∙◌, sym, arith}
use Rattle.std.proofs.lemmas.List.{map-append}
use Rattle.std.proofs.lemmas.List.FromFn.{map-range_with_len_more}
use Rattle.gta_checked.specs.Plain.{plain_measure}
use Rattle.gta_types.specs.Resolved.{column_measure}
use Rattle.gta_types.proofs.resolving.column_measures.Goals as goal

pub loop-column-preserved : goal.loop-column-preserved
loop-column-preserved c =
    ap (map plain_measure) c.in_ok-push.ensures.items
    ∙ map-append plain_measure c.loop-column.measures.items (c.in_ok-measure_of_column.field-0 ∷ [])
    ∙ rw (c.loop-column.invariant, c.in_ok-measure_of_column.ensures) refl
    ∙ sym (map-range_with_len_more column_measure 0 c.loop-column.column c.loop-column.column (omega arith))
