-- Spans: how one left factor moves all elements, in runs of neighbours.
use Rattle.std.specs.Prelude.{◌≡◌, ℕ, ◌+◌, ◌<◌, List, [], ◌∷◌, if◌then◌else◌}
use Rattle.monoid_kit.specs.declared.span.Span.{Span}

-- where the span moves its element at place i
abbrev pub moved : Span → ℕ → ℕ
moved span i = if span.rises then span.to + i else span.to

-- the span begins at low, isn't empty, and moves each of its elements as `move` does
pub record IsSpan (move : ℕ → ℕ) (low : ℕ) (span : Span) : Type 0 where
  pub begins : span.from ≡ low
  pub some : 0 < span.len
  pub moves : (i : ℕ) → i < span.len → move (low + i) ≡ moved span i

-- the spans lie one after the other from low to size, and each moves its elements as `move` does
abbrev pub AreSpans : ℕ → (ℕ → ℕ) → ℕ → List Span → Type 0
AreSpans size move low [] = low ≡ size
AreSpans size move low (span ∷ spans) = IsSpan move low span × AreSpans size move (low + span.len) spans
