-- Spans of a product, made of those of its first component and of those of the later ones.
use Rattle.std.specs.Prelude.{ℕ, ◌+◌, ◌*◌, ◌<◌, ◌≤◌, List, All, map}
use Rattle.std.specs.List.{flat_map, range_with_len}
use Rattle.monoid_kit.specs.declared.span.Span.{Span}
use Rattle.monoid_kit.specs.Spans.{moved}

-- the span, so much further on
abbrev pub shifted : ℕ → ℕ → Span → Span
shifted from to span = record { from = from + span.from; to = to + span.to; len = span.len; rises = span.rises }

-- the spans of the keys whose first digit is the element at place i of the span: those of the later components, shifted
abbrev pub at_place : ℕ → List Span → Span → ℕ → List Span
at_place later inner span i = map (shifted ((span.from + i) * later) (moved span i * later)) inner

-- the spans of the keys whose first digit is in the span
abbrev pub in_span : ℕ → List Span → Span → List Span
in_span later inner span = flat_map (at_place later inner span) (range_with_len 0 span.len)

-- the spans of all keys; the later components have so many keys, and those spans
abbrev pub nested : ℕ → List Span → List Span → List Span
nested later inner outer = flat_map (in_span later inner) outer

-- the spans begin below the size, and move to elements below it
abbrev pub AreBelow : ℕ → List Span → Type 0
AreBelow size spans = All (λ span. (span.from < size) × (span.to < size)) spans

-- the first and the last element of the span, and those that they are moved to, are below the size
pub record IsWithin (size : ℕ) (span : Span) : Type 0 where
  pub from : span.from + span.len ≤ size
  pub to : (i : ℕ) → i < span.len → moved span i < size
