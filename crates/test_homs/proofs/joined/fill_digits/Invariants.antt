use Rattle.std.proofs.Common.{◌≡◌, map, take, slice_index_or}
use Rattle.test_homs.proofs.joined.fill_digits.Given as goal

-- the digits of the tests so far
abbrev pub invariant-loop-test : goal.invariant-loop-test
invariant-loop-test l =
    l.digits.items ≡ map (λ test. slice_index_or test.letters.items l.place 0) (take l.test-index l.tests)
