use Rattle.std.proofs.Common.{◌≡◌, [], get_or, map}
use Rattle.std.specs.List.{fold, range_with_len}
use Rattle.auto_monoid.specs.AutoOf.{plain_auto}
use Rattle.auto_monoid.specs.Functions.{followed_by}
use Rattle.auto_monoid.specs.Numbering.{with_new}
use Rattle.auto_monoid.proofs.discovery.extend.Given as goal

-- what is new among the extensions by the letters so far has been added
abbrev pub invariant-loop-letter : goal.invariant-loop-letter
invariant-loop-letter l =
    l.functions.items ≡ fold with_new l.initial.functions.items
    (map (followed_by (plain_auto l.auto') (get_or l.initial.functions.items l.element [])) (range_with_len 0 l.letter))
