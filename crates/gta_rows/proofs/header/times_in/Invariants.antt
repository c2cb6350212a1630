use Rattle.std.proofs.Common.{◌≡◌, take}
use Rattle.gta_rows.specs.Fields.{trimmed_fields}
use Rattle.gta_rows.specs.Table.{times_in}
use Rattle.gta_rows.proofs.header.times_in.Given as goal

abbrev pub invariant-loop-place : goal.invariant-loop-place
invariant-loop-place l = l.times ≡ times_in (take l.place (trimmed_fields l.header)) l.text
