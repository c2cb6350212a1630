-- What a transition monoid holds.
use Rattle.std.specs.Prelude.{ℕ, List}
use Rattle.auto_monoid.specs.declared.monoid.AutoMonoid.{AutoMonoid}
use Rattle.auto_monoid.specs.Auto.{PlainAuto}
use Rattle.auto_monoid.specs.AutoOf.{plain_auto}

-- the automaton of which the monoid was made
abbrev pub machine : AutoMonoid → PlainAuto
machine monoid = plain_auto monoid.made_of

-- the functions of words, in order: an element is the place of its function
abbrev pub functions : AutoMonoid → List (List ℕ)
functions monoid = monoid.functions.items
