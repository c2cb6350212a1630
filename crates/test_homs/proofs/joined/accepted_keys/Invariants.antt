use Rattle.std.proofs.Common.{◌≡◌, map}
use Rattle.std.specs.List.{range_with_len}
use Rattle.test_homs.specs.Joined.{key_accepted}
use Rattle.test_homs.proofs.Digits.{plains}
use Rattle.test_homs.proofs.joined.accepted_keys.Given as goal

-- what the keys so far are
abbrev pub invariant-loop-key : goal.invariant-loop-key
invariant-loop-key l = l.accept.items ≡ map (key_accepted l.checked (plains l.tests)) (range_with_len 0 l.key)
