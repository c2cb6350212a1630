use Rattle.std.proofs.Common.{◌≡◌, take, map}
use Rattle.monoid_kit.specs.TableOf.{plain_table}
use Rattle.gta_checked.specs.Plain.{plain_pick}
use Rattle.gta_checked.specs.PlainRows.{plain_rows}
use Rattle.gta_meaning.specs.Folds.{folded}
use Rattle.gta_meaning.proofs.folds.folded.Given as goal

abbrev pub invariant-loop-mark : goal.invariant-loop-mark
invariant-loop-mark l =
    l.product ≡ folded (plain_rows l.rows) (plain_table l.monoid) (map plain_pick l.picks) (take l.mark-index l.marks)
