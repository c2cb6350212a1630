use Rattle.std.proofs.Common.{◌≡◌, take, None}
use Rattle.gta_rows.specs.Fields.{trimmed_fields}
use Rattle.gta_rows.specs.Table.{twice}
use Rattle.gta_rows.proofs.header.check_once.Given as goal

abbrev pub invariant-loop-item : goal.invariant-loop-item
invariant-loop-item l = twice (trimmed_fields l.header) (take l.item-index l.items) ≡ None
