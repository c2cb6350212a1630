-- A test of a sum's remainder is decided by sums of remainders.
use Rattle.std.proofs.Common.{◌≡◌, ℕ, suc, ◌+◌, ◌-◌, ◌*◌, ◌%◌, ◌<◌, ◌≤◌, ℤ, pos, negsuc, ◌+ℤ◌, nat_abs, eqb}
use Rattle.std.proofs.Common.{List, [], ◌∷◌, map, refl, ap, ◌∙◌, arith}
use Rattle.std.specs.Int.{int_rem_euclid}
use Rattle.std.specs.Ordering.{int_eq}
use Rattle.std.proofs.lemmas.Bool.Decides.{nat_tests}
use Rattle.std.proofs.lemmas.Int.{ints, int_rem_euclid_is}
use Rattle.std.proofs.lemmas.Nat.{mod_below, mul-le}
use Rattle.std.proofs.Math.Nat.{add-mod-mod, mod-add-mod, add-mul}
use Rattle.monoid_kit.specs.Modular.{modular_sum}
use Rattle.monoid_kit.specs.ModularLaws.{modular_sum-IsMonoid}
use Rattle.monoid_kit.specs.Product.{product_by}
use Rattle.gta_checked.specs.PlainRows.{PlainRows}
use Rattle.gta_checked.specs.Plain.{PlainChecked}
use Rattle.gta_meaning.specs.Values.{sum_of}
use Rattle.test_homs.specs.declared.added.Added.{Added}
use Rattle.test_homs.specs.Added.{added_at}
use Rattle.test_homs.specs.Hom.{IsHomOf}
use Rattle.test_homs.specs.Remainder.{remainder}
use Rattle.test_homs.proofs.AddedTotal.{added_total}

-- a whole number and a multiple of the modulus that make a natural
natural_with : (v : ℤ) (m : ℕ) → 1 ≤ m → (n : ℕ) × (v +ℤ pos (nat_abs v * m) ≡ pos n)
natural_with (pos a) m some = (a + a * m, omega (arith, ints))
natural_with (negsuc a) m some =
    (let le = mul-le (suc a) 1 (suc a) m (omega arith) some in (suc a * m - suc a, omega (arith, ints, le)))

module _ (m : ℕ) (some : 1 ≤ m) where
  pub remainder_below : (v : ℤ) → nat_abs (int_rem_euclid v (pos m)) < m
  remainder_below v =
      let shifted = natural_with v m some in
      let is = int_rem_euclid_is v (pos m) m (nat_abs v) shifted.0 some refl shifted.1 in
      rw is (mod_below shifted.0 m some)

  remainder-sum : (v t : ℤ)
      → modular_sum m (nat_abs (int_rem_euclid v (pos m))) (nat_abs (int_rem_euclid t (pos m)))
      ≡ nat_abs (int_rem_euclid (v +ℤ t) (pos m))
  remainder-sum v t =
      let of_v = natural_with v m some in
      let of_t = natural_with t m some in
      let v_is = int_rem_euclid_is v (pos m) m (nat_abs v) of_v.0 some refl of_v.1 in
      let t_is = int_rem_euclid_is t (pos m) m (nat_abs t) of_t.0 some refl of_t.1 in
      let times = add-mul (nat_abs v) (nat_abs t) m in
      let sum_is = int_rem_euclid_is (v +ℤ t) (pos m) m (nat_abs v + nat_abs t) (of_v.0 + of_t.0) some refl
      (omega (arith, ints, of_v.1, of_t.1, times)) in
      rw (v_is, t_is, sum_is)
      (mod-add-mod of_v.0 m (of_t.0 % m) ∙ add-mod-mod of_v.0 of_t.0 m)

  product-remainders : {A : Type 0} (f : A → ℤ) (xs : List A)
      → product_by 0 (modular_sum m) (λ x. nat_abs (int_rem_euclid (f x) (pos m))) xs
      ≡ nat_abs (int_rem_euclid (sum_of (map f xs)) (pos m))
  product-remainders f [] = omega arith
  product-remainders f (x ∷ xs) =
      ap (modular_sum m (nat_abs (int_rem_euclid (f x) (pos m)))) (product-remainders f xs)
      ∙ remainder-sum (f x) (sum_of (map f xs))

  -- one test on naturals, and on them as whole numbers
  test-as_ints : (a b : ℕ) → eqb a b ≡ int_eq (pos a) (pos b)
  test-as_ints a b = grind (arith, ints, nat_tests)

  remainder-tests : (v : ℤ) (residue : ℕ)
      → eqb (nat_abs (int_rem_euclid v (pos m))) residue ≡ int_eq (int_rem_euclid v (pos m)) (pos residue)
  remainder-tests v residue =
      let shifted = natural_with v m some in
      let is = int_rem_euclid_is v (pos m) m (nat_abs v) shifted.0 some refl shifted.1 in
      rw is (test-as_ints (shifted.0 % m) residue)

  meets-product : {A : Type 0} (f : A → ℤ) (residue : ℕ) (xs : List A)
      → eqb (product_by 0 (modular_sum m) (λ x. nat_abs (int_rem_euclid (f x) (pos m))) xs) residue
      ≡ int_eq (int_rem_euclid (sum_of (map f xs)) (pos m)) (pos residue)
  meets-product f residue xs =
      ap (λ n. eqb n residue) (product-remainders f xs) ∙ remainder-tests (sum_of (map f xs)) residue

pub remainder-IsHomOf : (checked : PlainChecked) (rows : PlainRows) (labels : ℕ) (added : Added) (modulus residue : ℕ)
    → 1 ≤ modulus
    → IsHomOf rows labels
    (λ marks. int_eq (int_rem_euclid (added_total checked rows added marks) (pos modulus)) (pos residue))
    (remainder checked added modulus residue)
remainder-IsHomOf checked rows labels added modulus residue some = record {
  monoid = modular_sum-IsMonoid modulus some;
  letters = λ row label. remainder_below modulus some (added_at checked rows added row label);
  decides = λ marks in_range.
      meets-product modulus some (λ m. added_at checked rows added m.row m.label) residue marks;
}
