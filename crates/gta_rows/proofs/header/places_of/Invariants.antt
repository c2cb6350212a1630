use Rattle.std.proofs.Common.{◌≡◌, take}
use Rattle.gta_rows.specs.Fields.{trimmed_fields}
use Rattle.gta_rows.specs.Table.{places}
use Rattle.gta_rows.proofs.header.places_of.Given as goal

abbrev pub invariant-loop-item : goal.invariant-loop-item
invariant-loop-item l = l.columns.items ≡ places (trimmed_fields l.header) (take l.item-index l.items)
