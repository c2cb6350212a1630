-- The laws of counts that stop at a cap, which is at least 1.
use Rattle.std.specs.Prelude.{◌≡◌, ℕ, zero, suc, ◌+◌, ◌*◌, ◌≤◌, min}
use Rattle.std.proofs.Common.{arith, inl, inr, refl, sym, ap, ◌∙◌, mul_comm, mul_assoc, mul-add, mul-zero, zero-mul}
use Rattle.std.proofs.Common.{one-mul, mul-le-mul_right}
use Rattle.std.proofs.lemmas.Bool.{cases_lt}
use Rattle.semiring_kit.specs.Semiring.{IsSemiring}
use Rattle.semiring_kit.specs.Count.{capped, count_cap, count}

module _ (cap : ℕ) (some : 1 ≤ cap) where
  past-mul : (a b : ℕ) → cap ≤ a → min (cap * b) cap ≡ min (a * b) cap
  past-mul a zero past = ap (λ n. min n cap) (mul-zero cap ∙ sym (mul-zero a))
  past-mul a (suc b) past =
      let more : cap * suc b ≤ a * suc b = mul-le-mul_right (suc b) past in
      let positive : 1 ≤ suc b = omega arith in
      let least : 1 * cap ≤ suc b * cap = mul-le-mul_right cap positive in
      let turned : cap * suc b ≡ suc b * cap = mul_comm cap (suc b) in
      let once : 1 * cap ≡ cap = one-mul cap in
      omega (arith, more, least, turned, once)

  -- a factor past the cap may be cut to it
  cut-mul : (a b : ℕ) → min (min a cap * b) cap ≡ min (a * b) cap
  cut-mul a b = elim (cases_lt a cap) [
    | inl below ↦
        let same : min a cap ≡ a = omega arith in
        ap (λ n. min (n * b) cap) same
    | inr past ↦
        let same : min a cap ≡ cap = omega arith in
        ap (λ n. min (n * b) cap) same ∙ past-mul a b past
  ]

  mul-commutative : (a b : ℕ) → min (a * b) cap ≡ min (b * a) cap
  mul-commutative a b = ap (λ n. min n cap) (mul_comm a b)

  mul-associative : (a b c : ℕ) → min (min (a * b) cap * c) cap ≡ min (a * min (b * c) cap) cap
  mul-associative a b c =
      cut-mul (a * b) c ∙ ap (λ n. min n cap) (mul_assoc a b c ∙ mul_comm a (b * c))
      ∙ sym (cut-mul (b * c) a) ∙ mul-commutative (min (b * c) cap) a

  mul-distributes : (a b c : ℕ)
      → min (a * min (b + c) cap) cap ≡ min (min (a * b) cap + min (a * c) cap) cap
  mul-distributes a b c =
      let sum = min (b + c) cap in
      let turned : min (a * sum) cap ≡ min (sum * a) cap = mul-commutative a sum in
      let cut : min (sum * a) cap ≡ min ((b + c) * a) cap = cut-mul (b + c) a in
      let product : (b + c) * a ≡ a * b + a * c = mul_comm (b + c) a ∙ mul-add a b c in
      omega (arith, turned, cut, product)

  mul-identity : (a : ℕ) → a ≤ cap → min (1 * a) cap ≡ a
  mul-identity a a_in = let once : 1 * a ≡ a = one-mul a in omega (arith, once)

  mul-zero_left : (a : ℕ) → min (0 * a) cap ≡ 0
  mul-zero_left a = let none : 0 * a ≡ 0 = zero-mul a in omega (arith, none)

  pub capped-IsSemiring : IsSemiring (capped cap)
  capped-IsSemiring = record {
    addition = record {
      monoid = record {
        unit_is_element = omega arith;
        product_is_element = λ a b a_in b_in. omega arith;
        left_identity = λ a a_in. omega arith;
        right_identity = λ a a_in. omega arith;
        associative = λ a b c a_in b_in c_in. omega arith;
      };
      commutative = λ a b a_in b_in. omega arith;
    };
    multiplication = record {
      unit_is_element = some;
      product_is_element = λ a b a_in b_in. omega arith;
      left_identity = λ a a_in. mul-identity a a_in;
      right_identity = λ a a_in. mul-commutative a 1 ∙ mul-identity a a_in;
      associative = λ a b c a_in b_in c_in. mul-associative a b c;
    };
    distributes_left = λ a b c a_in b_in c_in. mul-distributes a b c;
    distributes_right = λ a b c a_in b_in c_in.
        mul-commutative (min (a + b) cap) c ∙ mul-distributes c a b
        ∙ ap (λ n. min (n + min (c * b) cap) cap) (mul-commutative c a)
        ∙ ap (λ n. min (min (a * c) cap + n) cap) (mul-commutative c b);
    absorbs_left = λ a a_in. mul-zero_left a;
    absorbs_right = λ a a_in. mul-commutative a 0 ∙ mul-zero_left a;
    zero_reach = refl;
    one_reach = refl;
    add_reach = λ a b a_in b_in. omega arith;
    mul_reach = λ a b a_in b_in. omega arith;
  }

pub count-IsSemiring : IsSemiring count
count-IsSemiring = capped-IsSemiring count_cap (omega arith)
