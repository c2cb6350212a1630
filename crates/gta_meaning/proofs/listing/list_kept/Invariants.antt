use Rattle.std.proofs.Common.{◌≡◌, take}
use Rattle.std.specs.List.{filter}
use Rattle.gta_checked.specs.PlainRows.{plain_rows}
use Rattle.gta_meaning.specs.Kept.{generated}
use Rattle.gta_meaning.specs.Listed.{marks_of}
use Rattle.gta_meaning.specs.Tests.{passes}
use Rattle.gta_meaning.proofs.listing.list_kept.Given as goal

abbrev pub invariant-loop-number : goal.invariant-loop-number
invariant-loop-number l =
    marks_of l.list.items
    ≡ filter (passes l.checked (plain_rows l.rows)) (take l.number (generated l.checked (plain_rows l.rows)))
