use Rattle.std.proofs.Common.{◌≡◌, ℕ, ◌<◌, false, get_or}
use Rattle.gta_checked.specs.Plain.{plain_pick}
use Rattle.gta_checked.specs.declared.resolved.Pick.{Pick}
use Rattle.gta_checked.specs.PlainRows.{plain_rows}
use Rattle.gta_meaning.specs.Values.{holds}
use Rattle.gta_meaning.proofs.picks.first_pick.Given as goal

-- no pick so far has a condition that holds
abbrev pub invariant-loop-pick : goal.invariant-loop-pick
invariant-loop-pick l =
    (k : ℕ) (d : Pick) → k < l.pick-index
    → holds (plain_rows l.rows) l.row l.label (plain_pick (get_or l.picks k d)).cond ≡ false
