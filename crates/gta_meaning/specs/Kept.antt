-- The candidates of a specification and its table that pass, in their order.
use Rattle.std.specs.Prelude.{List}
use Rattle.std.specs.List.{filter}
use Rattle.shape_gen.specs.declared.mark.Mark.{Mark}
use Rattle.shape_gen.specs.Candidates.{candidates}
use Rattle.gta_checked.specs.PlainRows.{PlainRows}
use Rattle.gta_checked.specs.Plain.{PlainChecked}
use Rattle.gta_meaning.specs.InRange.{label_count}
use Rattle.gta_meaning.specs.Tests.{passes}

-- all generated candidates
abbrev pub generated : PlainChecked → PlainRows → List (List Mark)
generated checked rows = candidates checked.shape rows.count (label_count checked)

-- those of them that pass
abbrev pub kept : PlainChecked → PlainRows → List (List Mark)
kept checked rows = filter (passes checked rows) (generated checked rows)
