use Rattle.std.proofs.Common.{◌≡◌}
use Rattle.std.specs.Prelude.{map}
use Rattle.std.specs.List.{range_with_len}
use Rattle.auto_monoid.specs.AutoOf.{plain_auto}
use Rattle.auto_monoid.specs.MonoidOf.{letter_element}
use Rattle.auto_monoid.proofs.table.letters_of.Given as goal

abbrev pub invariant-loop-letter : goal.invariant-loop-letter
invariant-loop-letter l =
    l.letters.items ≡ map (letter_element (plain_auto l.auto') l.functions) (range_with_len 0 l.letter)
