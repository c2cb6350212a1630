use Rattle.std.proofs.Common.{length, [], sym, subst}
use Rattle.gta_checked.specs.Plain.{plain_measure}
use Rattle.gta_checked.specs.Within.{IsMeasureWithin}
use Rattle.gta_checked.specs.PlainRows.{plain_rows}
use Rattle.gta_meaning.proofs.Parts.{measure-at}
use Rattle.gta_meaning.proofs.values.value_of.Goals as goal

pub measure_value-requires-clause-within : goal.measure_value-requires-clause-within
measure_value-requires-clause-within c =
    let checked = c.args.checked.now in let rows = (plain_rows c.args.rows.now) in
    let at = measure-at c.measures.result.now.items checked.measures c.args.measure c.index.result.now
    c.measures.ensures.measures c.requires.measure_in_range c.index.ensures in
    let within = c.measures.ensures.within.measures c.args.measure [] c.requires.measure_in_range in
    let labels = length checked.labels in
    let measure = plain_measure c.index.result.now in
    let declared = subst (IsMeasureWithin (length checked.columns) labels) (sym at) within in
    (labels, subst (λ columns. IsMeasureWithin columns labels measure) (sym c.requires.columns) declared)
