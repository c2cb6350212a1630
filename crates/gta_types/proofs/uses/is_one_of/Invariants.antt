use Rattle.std.proofs.Common.{◌≡◌, false, take}
use Rattle.spec_tables.specs.Tables.{is_one_of}
use Rattle.gta_types.proofs.uses.is_one_of.Given as goal

abbrev pub invariant-loop-other : goal.invariant-loop-other
invariant-loop-other l = is_one_of (take l.other-index l.names) l.name ≡ false
