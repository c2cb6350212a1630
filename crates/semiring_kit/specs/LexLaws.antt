-- Numbers are weights, and so are three of them.
use Rattle.std.specs.Prelude.{◌≡◌, ◌+◌, ◌≤◌, ℤ, ◌+ℤ◌, unsigned_abs}
use Rattle.std.specs.Ordering.{int_cmp}
use Rattle.std.proofs.Common.{arith, refl, ap, ◌∙◌}
use Rattle.std.proofs.lemmas.Cmp.{on_total}
use Rattle.std.proofs.lemmas.Int.{ints}
use Rattle.witness_order.specs.Rankings.{IsRanking, KeepsRanking}
use Rattle.witness_order.proofs.Orders.{int_cmp-IsRanking, int_cmp-KeepsRanking, in_turn, in_turn-IsRanking}
use Rattle.semiring_kit.specs.declared.weight.Lex.{Lex}
use Rattle.semiring_kit.specs.Lex.{lex_order, lex_plus, no_lex, lexes}
use Rattle.semiring_kit.specs.Weight.{IsWeight, numbers}

plus-commutative : (a b : ℤ) → a +ℤ b ≡ b +ℤ a
plus-commutative a b = omega (arith, ints)

plus-reach : (a b : ℤ) → unsigned_abs (a +ℤ b) ≤ unsigned_abs a + unsigned_abs b
plus-reach a b = omega (arith, ints)

pub numbers-IsWeight : IsWeight numbers
numbers-IsWeight = record {
  ranking = int_cmp-IsRanking;
  kept = int_cmp-KeepsRanking;
  commutative = plus-commutative;
  nothing_reach = refl;
  plus_reach = plus-reach;
}

-- three numbers

abbrev lex_of : ℤ → ℤ → ℤ → Lex
lex_of a b c = record { first = a; second = b; third = c }

same_lex : (x y : Lex) → x.first ≡ y.first → x.second ≡ y.second → x.third ≡ y.third → x ≡ y
same_lex x y first second third =
    ap (λ n. lex_of n x.second x.third) first
    ∙ ap (λ n. lex_of y.first n x.third) second
    ∙ ap (λ n. lex_of y.first y.second n) third

-- as a pair of a number and a pair

abbrev parts : Lex → ℤ × (ℤ × ℤ)
parts x = (x.first, (x.second, x.third))

lex_order-IsRanking : IsRanking lex_order
lex_order-IsRanking =
    let rest = in_turn-IsRanking int_cmp int_cmp int_cmp-IsRanking int_cmp-IsRanking in
    let all = in_turn-IsRanking int_cmp (in_turn int_cmp int_cmp) int_cmp-IsRanking rest in
    record {
      total = on_total parts all.total;
      same = λ x y equal.
          let alike : parts x ≡ parts y = all.same (parts x) (parts y) equal in
          same_lex x y (ap (λ p. p.0) alike) (ap (λ p. p.1.0) alike) (ap (λ p. p.1.1) alike);
    }

lex_order-KeepsRanking : KeepsRanking lex_order no_lex lex_plus
lex_order-KeepsRanking =
    let kept = int_cmp-KeepsRanking in
    record {
      left_identity = λ x. same_lex (lex_plus no_lex x) x (kept.left_identity x.first) (kept.left_identity x.second)
          (kept.left_identity x.third);
      right_identity = λ x. same_lex (lex_plus x no_lex) x (kept.right_identity x.first) (kept.right_identity x.second)
          (kept.right_identity x.third);
      associative = λ x y z.
          same_lex (lex_plus (lex_plus x y) z) (lex_plus x (lex_plus y z))
          (kept.associative x.first y.first z.first) (kept.associative x.second y.second z.second)
          (kept.associative x.third y.third z.third);
      keeps_left = λ x y z.
          rw (
            kept.keeps_left x.first y.first z.first,
            kept.keeps_left x.second y.second z.second,
            kept.keeps_left x.third y.third z.third,
          ) refl;
      keeps_right = λ x y z.
          rw (
            kept.keeps_right x.first y.first z.first,
            kept.keeps_right x.second y.second z.second,
            kept.keeps_right x.third y.third z.third,
          ) refl;
    }

pub lexes-IsWeight : IsWeight lexes
lexes-IsWeight = record {
  ranking = lex_order-IsRanking;
  kept = lex_order-KeepsRanking;
  commutative = λ x y. same_lex (lex_plus x y) (lex_plus y x) (plus-commutative x.first y.first)
      (plus-commutative x.second y.second) (plus-commutative x.third y.third);
  nothing_reach = refl;
  plus_reach = λ x y.
      let first = plus-reach x.first y.first in
      let second = plus-reach x.second y.second in
      let third = plus-reach x.third y.third in
      omega (arith, first, second, third);
}
