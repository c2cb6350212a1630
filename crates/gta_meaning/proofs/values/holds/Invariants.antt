use Rattle.std.proofs.Common.{◌≡◌, true, take}
use Rattle.gta_checked.specs.PlainRows.{plain_rows}
use Rattle.gta_meaning.specs.Values as values
use Rattle.gta_meaning.proofs.values.holds.Given as goal

abbrev pub invariant-loop-atom : goal.invariant-loop-atom
invariant-loop-atom l = values.holds (plain_rows l.rows) l.row l.label (take l.atom-index l.cond) ≡ true
