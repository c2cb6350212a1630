-- A test that compares a sum of natural numbers is decided by sums that stop one past the bound.
use Rattle.std.proofs.Common.{◌≡◌, ℕ, ◌+◌, ◌<◌, min, ℤ, pos, ◌+ℤ◌, ◌≤ℤ◌, nat_abs, List, [], ◌∷◌, map, All}
use Rattle.std.proofs.Common.{ap, ◌∙◌, arith}
use Rattle.std.proofs.lemmas.Int.{ints}
use Rattle.std.proofs.lemmas.List.Elements.{All-head, All-tail}
use Rattle.monoid_kit.specs.CappedSum.{capped_sum}
use Rattle.monoid_kit.specs.CappedSumLaws.{capped_sum-IsMonoid}
use Rattle.monoid_kit.specs.Product.{product_by}
use Rattle.gta_spec.specs.declared.parts.Cmp.{Cmp}
use Rattle.gta_spec.specs.declared.parts.Cmp.TheVariants.{AtMost, AtLeast, Equal}
use Rattle.gta_checked.specs.PlainRows.{PlainRows}
use Rattle.gta_checked.specs.Plain.{PlainChecked}
use Rattle.gta_meaning.specs.Values.{compares, sum_of}
use Rattle.test_homs.specs.declared.added.Added.{Added}
use Rattle.test_homs.specs.Added.{added_at}
use Rattle.test_homs.specs.Compared.{compared}
use Rattle.test_homs.specs.Hom.{IsHomOf}
use Rattle.test_homs.proofs.AddedTotal.{added_total}

sum-stopped : (v t : ℤ) (b : ℕ) → pos 0 ≤ℤ v → pos 0 ≤ℤ t
    → min (min (nat_abs v) (b + 1) + min (nat_abs t) (b + 1)) (b + 1) ≡ min (nat_abs (v +ℤ t)) (b + 1)
sum-stopped v t b v_natural t_natural = omega (arith, ints)

sum_of-natural : {A : Type 0} (f : A → ℤ) (xs : List A) → All (λ x. pos 0 ≤ℤ f x) xs → pos 0 ≤ℤ sum_of (map f xs)
sum_of-natural f [] natural = omega (arith, ints)
sum_of-natural f (x ∷ xs) natural =
    let here = All-head (λ y. pos 0 ≤ℤ f y) x xs natural in
    let rest = sum_of-natural f xs (All-tail (λ y. pos 0 ≤ℤ f y) x xs natural) in
    omega (arith, ints, here, rest)

product-stopped : {A : Type 0} (f : A → ℤ) (b : ℕ) (xs : List A) → All (λ x. pos 0 ≤ℤ f x) xs
    → product_by 0 (capped_sum b) (λ x. min (nat_abs (f x)) (b + 1)) xs ≡ min (nat_abs (sum_of (map f xs))) (b + 1)
product-stopped f b [] natural = omega arith
product-stopped f b (x ∷ xs) natural =
    let rest_natural = All-tail (λ y. pos 0 ≤ℤ f y) x xs natural in
    ap (capped_sum b (min (nat_abs (f x)) (b + 1))) (product-stopped f b xs rest_natural)
    ∙ sum-stopped (f x) (sum_of (map f xs)) b (All-head (λ y. pos 0 ≤ℤ f y) x xs natural)
    (sum_of-natural f xs rest_natural)

-- a natural total compares with the bound as its key does
stopped-compares : (cmp : Cmp) (t number : ℤ) → pos 0 ≤ℤ t → pos 0 ≤ℤ number
    → compares cmp (pos (min (nat_abs t) (nat_abs number + 1))) number ≡ compares cmp t number
stopped-compares AtMost t b natural b_natural = grind (arith, ints)
stopped-compares AtLeast t b natural b_natural = grind (arith, ints)
stopped-compares Equal t b natural b_natural = grind (arith, ints)

compares-product : {A : Type 0} (f : A → ℤ) (cmp : Cmp) (number : ℤ) (xs : List A)
    → pos 0 ≤ℤ number → All (λ x. pos 0 ≤ℤ f x) xs
    → compares cmp
    (pos (product_by 0 (capped_sum (nat_abs number)) (λ x. min (nat_abs (f x)) (nat_abs number + 1)) xs)) number
    ≡ compares cmp (sum_of (map f xs)) number
compares-product f cmp number xs number_natural natural =
    ap (λ n. compares cmp (pos n) number) (product-stopped f (nat_abs number) xs natural)
    ∙ stopped-compares cmp (sum_of (map f xs)) number (sum_of-natural f xs natural) number_natural

-- what is added is natural
pub compared-IsHomOf : (checked : PlainChecked) (rows : PlainRows) (labels : ℕ) (added : Added) (cmp : Cmp) (number : ℤ)
    → pos 0 ≤ℤ number
    → ((row label : ℕ) → row < rows.count → label < labels → pos 0 ≤ℤ added_at checked rows added row label)
    → IsHomOf rows labels (λ marks. compares cmp (added_total checked rows added marks) number)
    (compared checked added cmp number)
compared-IsHomOf checked rows labels added cmp number number_natural natural = record {
  monoid = capped_sum-IsMonoid (nat_abs number);
  letters = λ row label. omega arith;
  decides = λ marks in_range.
      compares-product (λ m. added_at checked rows added m.row m.label) cmp number marks number_natural
      (λ k mark below. let m_in = in_range.each k mark below in natural _ _ m_in.row m_in.label);
}
