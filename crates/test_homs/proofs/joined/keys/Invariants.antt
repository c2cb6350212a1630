use Rattle.std.proofs.Common.{◌≡◌, map}
use Rattle.std.specs.List.{range_with_len}
use Rattle.test_homs.specs.Joined.{key_at}
use Rattle.test_homs.proofs.Digits.{plains}
use Rattle.test_homs.proofs.joined.keys.Given as goal

-- the keys of the places so far
abbrev pub invariant-loop-place : goal.invariant-loop-place
invariant-loop-place l = l.keys.items ≡ map (key_at (plains l.tests)) (range_with_len 0 l.place)
