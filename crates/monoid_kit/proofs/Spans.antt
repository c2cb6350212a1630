-- Lemmas on lists of spans.
use Rattle.std.proofs.Common.{◌≡◌, ℕ, ◌+◌, ◌-◌, ◌%◌, ◌<◌, ◌≤◌, List, [], ◌∷◌, ◌++◌, true, refl, sym, ap, subst, ◌∙◌}
use Rattle.std.proofs.Common.{arith}
use Rattle.std.proofs.Math.Nat.{add-mod_left, mod-eq_of_lt}
use Rattle.monoid_kit.specs.declared.span.Span.{Span}
use Rattle.monoid_kit.specs.Modular.{modular_sum}
use Rattle.monoid_kit.specs.Spans.{IsSpan, AreSpans}

pub AreSpans-end : (size low : ℕ) (move : ℕ → ℕ) (spans : List Span) → AreSpans size move low spans → low ≤ size
AreSpans-end size low move [] are = omega arith
AreSpans-end size low move (x ∷ xs) are = (let rest = AreSpans-end size (low + x.len) move xs are.1 in omega arith)

-- spans say no more than where each element is moved
pub AreSpans-same : (size low : ℕ) (move other : ℕ → ℕ) (spans : List Span) → ((k : ℕ) → k < size → move k ≡ other k)
    → AreSpans size move low spans → AreSpans size other low spans
AreSpans-same size low move other [] same are = are
AreSpans-same size low move other (x ∷ xs) same are =
    let within = AreSpans-end size (low + x.len) move xs are.1 in (
      record {
        begins = are.0.begins;
        some = are.0.some;
        moves = λ i below. sym (same (low + i) (omega arith)) ∙ are.0.moves i below;
      },
      AreSpans-same size (low + x.len) move other xs same are.1,
    )

module _ (move : ℕ → ℕ) where
  -- one list of spans after another
  pub AreSpans-append : (low mid size : ℕ) (xs ys : List Span) → AreSpans mid move low xs → AreSpans size move mid ys
      → AreSpans size move low (xs ++ ys)
  AreSpans-append low mid size [] ys front back = subst (λ at. AreSpans size move at ys) (sym front) back
  AreSpans-append low mid size (x ∷ xs) ys front back =
      (front.0, AreSpans-append (low + x.len) mid size xs ys front.1 back)

  -- one span more at the end
  pub AreSpans-push : (low mid size : ℕ) (xs : List Span) (x : Span) → AreSpans mid move low xs → IsSpan move mid x
      → size ≡ mid + x.len → AreSpans size move low (xs ++ x ∷ [])
  AreSpans-push low mid size xs x front last end = AreSpans-append low mid size xs (x ∷ []) front (last, sym end)

  -- one element alone
  pub alone-IsSpan : (at : ℕ) (span : Span) → span.from ≡ at → span.to ≡ move at → span.len ≡ 1 → span.rises ≡ true
      → IsSpan move at span
  alone-IsSpan at span from to len rises = record {
    begins = from;
    some = omega arith;
    moves = λ i below.
        let first : i ≡ 0 = omega arith in
        let here : at + i ≡ at = omega arith in
        let there : span.to + i ≡ span.to = omega arith in
        rw (rises, here, there) (sym to);
  }

-- sums of remainders rise up to the modulus, and from 0 again
module _ (modulus a : ℕ) (is_element : a < modulus) where
  below-IsSpan : IsSpan (modular_sum modulus a) 0 (record { from = 0; to = a; len = modulus - a; rises = true })
  below-IsSpan = record {
    begins = refl;
    some = omega arith;
    moves = λ i below.
        let less : a + i < modulus = omega arith in
        let same : a + (0 + i) ≡ a + i = omega arith in
        ap (λ n. n % modulus) same ∙ mod-eq_of_lt less;
  }

  past-IsSpan : (at : ℕ) → at ≡ modulus - a → 0 < a
      → IsSpan (modular_sum modulus a) at (record { from = modulus - a; to = 0; len = a; rises = true })
  past-IsSpan at is some = record {
    begins = sym is;
    some = some;
    moves = λ i below.
        let less : 0 + i < modulus = omega arith in
        let same : a + (at + i) ≡ modulus + (0 + i) = omega arith in
        ap (λ n. n % modulus) same ∙ add-mod_left modulus (0 + i) ∙ mod-eq_of_lt less;
  }

  pub modular_sum-spans_of_zero : a ≤ 0
      → AreSpans modulus (modular_sum modulus a) 0 (record { from = 0; to = a; len = modulus - a; rises = true } ∷ [])
  modular_sum-spans_of_zero none = (below-IsSpan, omega arith)

  pub modular_sum-spans : 0 < a
      → AreSpans modulus (modular_sum modulus a) 0 (record { from = 0; to = a; len = modulus - a; rises = true }
      ∷ record { from = modulus - a; to = 0; len = a; rises = true } ∷ [])
  modular_sum-spans some = (below-IsSpan, (past-IsSpan (0 + (modulus - a)) (omega arith) some, omega arith))
