use Rattle.std.proofs.Common.{◌≡◌, ℕ, ◌<◌, false, get_or}
use Rattle.gta_checked.specs.Plain.{plain_case}
use Rattle.gta_checked.specs.declared.resolved.Case.{Case}
use Rattle.gta_checked.specs.PlainRows.{plain_rows}
use Rattle.gta_meaning.specs.Values as values
use Rattle.gta_meaning.proofs.values.measure_value.Given as goal

-- no case so far has a condition that holds
abbrev pub invariant-loop-case : goal.invariant-loop-case
invariant-loop-case l =
    (k : ℕ) (d : Case) → k < l.case-index
    → values.holds (plain_rows l.rows) l.row l.label (plain_case (get_or l.case-items k d)).cond ≡ false
