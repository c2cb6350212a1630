use Rattle.std.proofs.Common.{◌≡◌, take}
use Rattle.gta_rows.specs.Fields.{trimmed_fields}
use Rattle.gta_rows.specs.Table.{place_in}
use Rattle.gta_rows.proofs.header.place_in.Given as goal

abbrev pub invariant-loop-place : goal.invariant-loop-place
invariant-loop-place l = place_in (take l.place (trimmed_fields l.header)) l.text ≡ l.place
