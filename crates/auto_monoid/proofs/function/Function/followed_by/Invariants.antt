use Rattle.std.proofs.Common.{◌≡◌, map, take}
use Rattle.auto_monoid.specs.Auto.{move}
use Rattle.auto_monoid.specs.AutoOf.{plain_auto}
use Rattle.auto_monoid.proofs.function.Function.followed_by.Given as goal

abbrev pub invariant-loop-state : goal.invariant-loop-state
invariant-loop-state l =
    l.targets.items ≡ map (move (plain_auto l.auto') l.letter) (take l.state-index l.state-items)
