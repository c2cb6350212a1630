-- The laws of truth values.
use Rattle.std.specs.Prelude.{◌≡◌, Bool, true, false, ◌||◌, ◌&&◌}
use Rattle.std.proofs.Common.{arith, refl}
use Rattle.semiring_kit.specs.Semiring.{IsSemiring}
use Rattle.semiring_kit.specs.Truth.{truth}

or-associative : (a b c : Bool) → (a || b) || c ≡ a || (b || c)
or-associative true b c = refl
or-associative false b c = refl

or-commutative : (a b : Bool) → a || b ≡ b || a
or-commutative true true = refl
or-commutative true false = refl
or-commutative false true = refl
or-commutative false false = refl

or-right_identity : (a : Bool) → a || false ≡ a
or-right_identity true = refl
or-right_identity false = refl

and-associative : (a b c : Bool) → (a && b) && c ≡ a && (b && c)
and-associative true b c = refl
and-associative false b c = refl

and-right_identity : (a : Bool) → a && true ≡ a
and-right_identity true = refl
and-right_identity false = refl

and-right_zero : (a : Bool) → a && false ≡ false
and-right_zero true = refl
and-right_zero false = refl

and-distributes_left : (a b c : Bool) → a && (b || c) ≡ (a && b) || (a && c)
and-distributes_left true b c = refl
and-distributes_left false b c = refl

and-distributes_right : (a b c : Bool) → (a || b) && c ≡ (a && c) || (b && c)
and-distributes_right true b true = refl
and-distributes_right true true false = refl
and-distributes_right true false false = refl
and-distributes_right false b c = refl

pub truth-IsSemiring : IsSemiring truth
truth-IsSemiring = record {
  addition = record {
    monoid = record {
      unit_is_element = tt;
      product_is_element = λ a b a_in b_in. tt;
      left_identity = λ a a_in. refl;
      right_identity = λ a a_in. or-right_identity a;
      associative = λ a b c a_in b_in c_in. or-associative a b c;
    };
    commutative = λ a b a_in b_in. or-commutative a b;
  };
  multiplication = record {
    unit_is_element = tt;
    product_is_element = λ a b a_in b_in. tt;
    left_identity = λ a a_in. refl;
    right_identity = λ a a_in. and-right_identity a;
    associative = λ a b c a_in b_in c_in. and-associative a b c;
  };
  distributes_left = λ a b c a_in b_in c_in. and-distributes_left a b c;
  distributes_right = λ a b c a_in b_in c_in. and-distributes_right a b c;
  absorbs_left = λ a a_in. refl;
  absorbs_right = λ a a_in. and-right_zero a;
  zero_reach = refl;
  one_reach = refl;
  add_reach = λ a b a_in b_in. omega arith;
  mul_reach = λ a b a_in b_in. omega arith;
}
