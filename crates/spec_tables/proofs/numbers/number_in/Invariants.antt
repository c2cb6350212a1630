use Rattle.std.proofs.Common.{◌≡◌, take}
use Rattle.spec_tables.specs.Tables.{number_of}
use Rattle.spec_tables.proofs.numbers.number_in.Given as goal

abbrev pub invariant-loop-number : goal.invariant-loop-number
invariant-loop-number l = number_of (take l.number l.names) l.name ≡ l.number
