-- Sums over a list in which one element changes, and how often a number stands in a list that grows.
use Rattle.std.proofs.Common.{◌≡◌, ◌≢◌, ℕ, zero, suc, ◌+◌, ◌≤◌, cond, List, [], ◌∷◌, ◌++◌, set, sum_by, sym, ap, ◌∙◌}
use Rattle.std.proofs.Common.{eq-eqb, ne_eqb, arith}
use mathlib.Core.Option.{some, some-injective, some-ne-none}
use lib.ListN.{get_elem?}
use Rattle.std.proofs.lemmas.List.Sums.{sum_by-cons, sum_by_push}
use Rattle.steal_deal.specs.Views.{copies}

module _ {X : Type 0} (f : X → ℕ) where
  -- one element is exchanged
  pub sum_by-set : (xs : List X) (i : ℕ) (x y : X) → get_elem? xs i ≡ some x
      → sum_by f (set xs i y) + f x ≡ sum_by f xs + f y
  sum_by-set [] i x y at = absurd (some-ne-none x (sym at))
  sum_by-set (z ∷ zs) zero x y at =
      let same : f z ≡ f x = ap f (some-injective z x at) in
      let old = sum_by-cons f z zs in
      let new = sum_by-cons f y zs in
      omega arith
  sum_by-set (z ∷ zs) (suc i) x y at =
      let rest = sum_by-set zs i x y at in
      let old = sum_by-cons f z zs in
      let new = sum_by-cons f z (set zs i y) in
      omega arith

  -- an element is one part of the sum
  pub part-le-sum_by : (xs : List X) (i : ℕ) (x : X) → get_elem? xs i ≡ some x → f x ≤ sum_by f xs
  part-le-sum_by [] i x at = absurd (some-ne-none x (sym at))
  part-le-sum_by (z ∷ zs) zero x at =
      let same : f z ≡ f x = ap f (some-injective z x at) in
      let all = sum_by-cons f z zs in
      omega arith
  part-le-sum_by (z ∷ zs) (suc i) x at =
      let rest = part-le-sum_by zs i x at in
      let all = sum_by-cons f z zs in
      omega arith

  -- a sum of smaller parts is smaller
  pub sum_by-le-sum_by : (g : X → ℕ) (xs : List X) → ((i : ℕ) (x : X) → get_elem? xs i ≡ some x → f x ≤ g x)
      → sum_by f xs ≤ sum_by g xs
  sum_by-le-sum_by g [] le = omega arith
  sum_by-le-sum_by g (z ∷ zs) le =
      let first = le 0 z (λ _. some z) in
      let rest = sum_by-le-sum_by g zs (λ i. le (suc i)) in
      let left = sum_by-cons f z zs in
      let right = sum_by-cons g z zs in
      omega arith

pub copies_push-same : (x : ℕ) (xs : List ℕ) → copies x (xs ++ x ∷ []) ≡ copies x xs + 1
copies_push-same x xs = sum_by_push _ xs x ∙ ap (λ b. copies x xs + cond b 1 0) (eq-eqb x x (λ _. x))

pub copies_push-other : (x y : ℕ) (xs : List ℕ) → y ≢ x → copies x (xs ++ y ∷ []) ≡ copies x xs
copies_push-other x y xs differ =
    let one_more : copies x (xs ++ y ∷ []) ≡ copies x xs + 0 = sum_by_push _ xs y
    ∙ ap (λ b. copies x xs + cond b 1 0) (ne_eqb y x differ) in
    omega arith
