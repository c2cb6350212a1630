use Rattle.std.proofs.Common.{◌≡◌, ◌++◌}
use Rattle.std.specs.List.{flat_map, range_with_len}
use Rattle.monoid_product.specs.Nested.{at_place}
use Rattle.monoid_product.proofs.spans.add_span.Given as goal

-- the spans of the places so far were added
abbrev pub invariant-loop-i : goal.invariant-loop-i
invariant-loop-i l =
    l.spans.items ≡ l.initial.spans.items ++ flat_map (at_place l.later l.inner l.span) (range_with_len 0 l.i)
