use Rattle.std.proofs.Common.{◌≡◌, take, map}
use Rattle.spec_tables.specs.Tables.{number_of}
use Rattle.gta_types.proofs.resolving.numbers_of.Given as goal

abbrev pub invariant-loop-name : goal.invariant-loop-name
invariant-loop-name l = l.numbers.items ≡ map (number_of l.elements) (take l.name-index l.names)
