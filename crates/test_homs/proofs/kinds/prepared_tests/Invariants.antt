use Rattle.std.proofs.Common.{◌≡◌, map}
use Rattle.std.specs.List.{range_with_len}
use Rattle.gta_checked.specs.PlainRows.{plain_rows}
use Rattle.test_homs.specs.Prepared.{plain_prepared, prepared_test}
use Rattle.test_homs.proofs.kinds.prepared_tests.Given as goal

-- the tests so far
abbrev pub invariant-loop-number : goal.invariant-loop-number
invariant-loop-number l =
    map plain_prepared l.prepared.items
    ≡ map (prepared_test l.checked (plain_rows l.rows)) (range_with_len 0 l.number)
