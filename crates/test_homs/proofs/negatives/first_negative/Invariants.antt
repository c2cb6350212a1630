use Rattle.std.proofs.Common.{◌≡◌, ℕ, ◌<◌, None, get_or}
use Rattle.gta_checked.specs.Plain.{plain_test}
use Rattle.gta_checked.specs.PlainRows.{plain_rows}
use Rattle.gta_checked.specs.declared.resolved.Test.{Test}
use Rattle.test_homs.specs.Negatives.{negative_of_test}
use Rattle.test_homs.proofs.negatives.first_negative.Given as goal

-- no test so far has a negative value
abbrev pub invariant-loop-k : goal.invariant-loop-k
invariant-loop-k l =
    (k : ℕ) (d : Test) → k < l.k
    → negative_of_test l.checked (plain_rows l.rows) k (plain_test (get_or l.tests.items k d)) ≡ None
