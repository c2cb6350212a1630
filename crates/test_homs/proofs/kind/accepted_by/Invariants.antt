use Rattle.std.proofs.Common.{◌≡◌, map}
use Rattle.std.specs.List.{range_with_len}
use Rattle.test_homs.proofs.kind.accepted_by.Given as goal

-- whether the elements so far are accepted
abbrev pub invariant-loop-element : goal.invariant-loop-element
invariant-loop-element g l =
    l.accept.items ≡ map (g.K.Kind.hom l.kind).accepts (range_with_len 0 l.element)
