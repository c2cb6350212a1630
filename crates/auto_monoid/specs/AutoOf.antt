-- The plain automaton that an automaton is.
use Rattle.auto_monoid.specs.declared.auto.Auto.{Auto}
use Rattle.auto_monoid.specs.Auto.{PlainAuto}

abbrev pub plain_auto : Auto → PlainAuto
plain_auto auto = record { states = auto.states; start = auto.start; letters = auto.letters; moves = auto.moves.items }
