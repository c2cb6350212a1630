-- Numbers taken apart by the sizes of their digits.
use Rattle.std.proofs.Common.{◌≡◌, ℕ, ◌+◌, ◌*◌, ◌/◌, ◌%◌, ◌<◌, ◌≤◌, sym, ap, subst, ◌∙◌, arith}
use Rattle.std.proofs.Math.Nat.{mul_comm, mul_assoc, div-div-eq-div-mul, mul-div_cancel_left}
use Rattle.std.proofs.lemmas.Nat.{mul-le, mul-add-lt, div-mul-add, mod-mul-add, div-add-mod', mod_below}

-- one more digit at the end
pub horner : (key s d k r : ℕ) → key * (s * k) + (d * k + r) ≡ (key * s + d) * k + r
horner key s d k r = grind arith

pub at_most_times : (x k : ℕ) → 0 < k → x ≤ x * k
at_most_times x k some = (let le = mul-le x 1 x k (omega arith) some in omega arith)

pub times-regroup : (x s k : ℕ) → x * (s * k) ≡ (x * s) * k
times-regroup x s k = sym (mul_assoc x s k)

module _ (n k : ℕ) (some_n : 0 < n) (some_k : 0 < k) where
  whole : (a : ℕ) → a / k / n * (n * k) + (a / k % n * k + a % k) ≡ a
  whole a =
      horner (a / k / n) n (a / k % n) k (a % k)
      ∙ ap (λ q. q * k + a % k) (div-add-mod' (a / k) n)
      ∙ div-add-mod' a k

  low_in : (a : ℕ) → a / k % n * k + a % k < n * k
  low_in a = subst (λ m. a / k % n * k + a % k < m) (mul_comm k n)
      (mul-add-lt (a / k % n) k (a % k) n (mod_below (a / k) n some_n) (mod_below a k some_k))

  mod-both : (a : ℕ) → a % (n * k) ≡ a / k % n * k + a % k
  mod-both a =
      ap (λ m. m % (n * k)) (sym (whole a))
      ∙ mod-mul-add (a / k / n) (n * k) (a / k % n * k + a % k) (low_in a)

  pub mod-div : (a : ℕ) → a % (n * k) / k ≡ a / k % n
  mod-div a = ap (λ m. m / k) (mod-both a) ∙ div-mul-add (a / k % n) k (a % k) (mod_below a k some_k)

  pub mod-mod : (a : ℕ) → a % (n * k) % k ≡ a % k
  mod-mod a = ap (λ m. m % k) (mod-both a) ∙ mod-mul-add (a / k % n) k (a % k) (mod_below a k some_k)

  pub div-both : (a : ℕ) → a / k / n ≡ a / (n * k)
  div-both a = div-div-eq-div-mul a k n ∙ ap (λ m. a / m) (mul_comm k n)

  pub times-div : n * k / n ≡ k
  times-div = mul-div_cancel_left k some_n
