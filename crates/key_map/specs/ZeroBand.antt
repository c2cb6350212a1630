-- A small monoid in which factors may not change places, for worked examples.
use Rattle.std.specs.Prelude.{◌≡◌, ℕ, ◌<◌, Bool, true, false, nat_eq, if◌then◌else◌}
use Rattle.std.proofs.Common.{arith, refl}
use Rattle.std.proofs.lemmas.Bool.Decides.{nat_tests}
use Rattle.monoid_kit.specs.Monoid.{IsMonoid}

-- of two elements other than the unit 0, the right one, or else the left one
abbrev pub zero_band : Bool → ℕ → ℕ → ℕ
zero_band right a b =
    if right then (if nat_eq b 0 then a else b) else (if nat_eq a 0 then b else a)

zero_band-associative : (right : Bool) (a b c : ℕ)
    → zero_band right (zero_band right a b) c ≡ zero_band right a (zero_band right b c)
zero_band-associative true a b c = grind (arith, nat_tests)
zero_band-associative false a b c = grind (arith, nat_tests)

zero_band-left_identity : (right : Bool) (a : ℕ) → zero_band right 0 a ≡ a
zero_band-left_identity true a = grind (arith, nat_tests)
zero_band-left_identity false a = refl

zero_band-right_identity : (right : Bool) (a : ℕ) → zero_band right a 0 ≡ a
zero_band-right_identity true a = refl
zero_band-right_identity false a = grind (arith, nat_tests)

zero_band-is_element : (right : Bool) (a b : ℕ) → a < 3 → b < 3 → zero_band right a b < 3
zero_band-is_element true a b a_in b_in = grind (arith, nat_tests)
zero_band-is_element false a b a_in b_in = grind (arith, nat_tests)

pub zero_band-IsMonoid : (right : Bool) → IsMonoid 3 0 (zero_band right)
zero_band-IsMonoid right = record {
  unit_is_element = omega arith;
  product_is_element = zero_band-is_element right;
  left_identity = λ a a_in. zero_band-left_identity right a;
  right_identity = λ a a_in. zero_band-right_identity right a;
  associative = λ a b c a_in b_in c_in. zero_band-associative right a b c;
}
