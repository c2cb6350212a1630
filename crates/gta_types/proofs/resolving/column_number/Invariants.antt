use Rattle.std.proofs.Common.{◌≡◌, take, map}
use Rattle.spec_tables.specs.Tables.{number_of}
use Rattle.gta_types.proofs.resolving.column_number.Given as goal

abbrev pub invariant-loop-number : goal.invariant-loop-number
invariant-loop-number l = number_of (map (λ item. item.name) (take l.number l.columns)) l.name ≡ l.number
