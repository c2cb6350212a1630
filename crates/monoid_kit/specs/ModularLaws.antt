-- The laws of sums of remainders.
use Rattle.std.specs.Prelude.{◌≡◌, ℕ, ◌+◌, ◌%◌, ◌<◌, ◌≤◌}
use Rattle.std.proofs.Common.{ap, sym, ◌∙◌, add_assoc, add-zero, zero-add, arith}
use Rattle.std.proofs.Math.Nat.{add-mod-mod, mod-add-mod, mod-eq_of_lt}
use Rattle.monoid_kit.specs.Monoid.{IsMonoid}
use Rattle.monoid_kit.specs.Modular.{modular_sum}

module _ (modulus : ℕ) (some : 1 ≤ modulus) where
  modular_sum-is_element : (a b : ℕ) → a < modulus → b < modulus → modular_sum modulus a b < modulus
  modular_sum-is_element a b a_in b_in = omega arith

  modular_sum-left_identity : (a : ℕ) → a < modulus → modular_sum modulus 0 a ≡ a
  modular_sum-left_identity a a_in = ap (λ n. n % modulus) (zero-add a) ∙ mod-eq_of_lt a_in

  modular_sum-right_identity : (a : ℕ) → a < modulus → modular_sum modulus a 0 ≡ a
  modular_sum-right_identity a a_in = ap (λ n. n % modulus) (add-zero a) ∙ mod-eq_of_lt a_in

  modular_sum-associative : (a b c : ℕ) → a < modulus → b < modulus → c < modulus
      → modular_sum modulus (modular_sum modulus a b) c ≡ modular_sum modulus a (modular_sum modulus b c)
  modular_sum-associative a b c a_in b_in c_in =
      mod-add-mod (a + b) modulus c
      ∙ ap (λ n. n % modulus) (add_assoc a b c)
      ∙ sym (add-mod-mod a (b + c) modulus)

  pub modular_sum-IsMonoid : IsMonoid modulus 0 (modular_sum modulus)
  modular_sum-IsMonoid = record {
    unit_is_element = omega arith;
    product_is_element = modular_sum-is_element;
    left_identity = modular_sum-left_identity;
    right_identity = modular_sum-right_identity;
    associative = modular_sum-associative;
  }
