-- Three numbers as one weight: the first counts most, then the second, then the third.
use Rattle.std.specs.Prelude.{ℕ, max, pos, ◌+ℤ◌, unsigned_abs}
use Rattle.std.specs.Ordering.{int_cmp, ordering_then}
use Rattle.std.specs.declared.cmp.Ordering.{Ordering}
use Rattle.semiring_kit.specs.declared.weight.Lex.{Lex}
use Rattle.semiring_kit.specs.Weight.{WeightsOn}

-- by the first number, then by the second, then by the third
abbrev pub lex_order : Lex → Lex → Ordering
lex_order a b =
    ordering_then (int_cmp a.first b.first)
    (ordering_then (int_cmp a.second b.second) (int_cmp a.third b.third))

-- the sums of the numbers
abbrev pub lex_plus : Lex → Lex → Lex
lex_plus a b = record {
  first = a.first +ℤ b.first;
  second = a.second +ℤ b.second;
  third = a.third +ℤ b.third;
}

-- the greatest absolute value of the three
abbrev pub lex_reach : Lex → ℕ
lex_reach a = max (unsigned_abs a.first) (max (unsigned_abs a.second) (unsigned_abs a.third))

abbrev pub no_lex : Lex
no_lex = record { first = pos 0; second = pos 0; third = pos 0 }

abbrev pub lexes : WeightsOn Lex
lexes = record { order = lex_order; nothing = no_lex; plus = lex_plus; reach = lex_reach }
