-- Of two lists of one length, shortlex is what their items tell.
use Rattle.std.proofs.Common.{◌≡◌, ◌+◌, List, ◌++◌, length, length-append}
use Rattle.std.specs.declared.cmp.Ordering.{Ordering}
use Rattle.std.specs.declared.cmp.Ordering.TheVariants.{Equal}
use Rattle.std.specs.Ordering.{nat_cmp}
use Rattle.std.specs.Cmp.Lexicographic.{slice_cmp}
use Rattle.witness_order.specs.Shortlex.{shortlex_by}

pub shortlex_even : {X : Type 0} (order : X → X → Ordering) (a b c d : List X) (result : Ordering)
    → nat_cmp (length a + length b) (length c + length d) ≡ Equal
    → result ≡ slice_cmp order (a ++ b) (c ++ d) → result ≡ shortlex_by order (a ++ b) (c ++ d)
shortlex_even order a b c d result even is = rw (length-append a b, length-append c d, even) is
