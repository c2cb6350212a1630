use Rattle.std.proofs.Common.{◌≡◌, take, None}
use Rattle.gta_rows.specs.Fields.{trimmed_fields}
use Rattle.gta_rows.specs.Table.{missing}
use Rattle.gta_rows.proofs.header.check_present.Given as goal

abbrev pub invariant-loop-item : goal.invariant-loop-item
invariant-loop-item l = missing (trimmed_fields l.header) (take l.item-index l.items) ≡ None
