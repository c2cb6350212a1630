use Rattle.std.proofs.Common.{◌≡◌, map, take, get_or}
use Rattle.auto_monoid.proofs.function.Function.then.Given as goal

abbrev pub invariant-loop-state : goal.invariant-loop-state
invariant-loop-state l =
    l.targets.items ≡ map (λ state. get_or l.next state 0) (take l.state-index l.state-items)
