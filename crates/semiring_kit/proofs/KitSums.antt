-- What the kits' sums over a list are: the cut number of items, whether there is one, and the chosen weight.
use Rattle.std.proofs.Common.{◌≡◌, ℕ, ℤ, pos, ◌+ℤ◌, ◌≤ℤ◌, unsigned_abs, int_lt, Bool, true, false, cond, ◌⊎◌, List}
use Rattle.std.proofs.Common.{[], ◌∷◌, map, Option, Some, None, inl, inr, refl, sym, subst, ap, ◌∙◌, arith}
use Rattle.std.specs.Int.{int_max, int_min}
use Rattle.std.proofs.lemmas.Cmp.{tied_itself, upto}
use Rattle.std.proofs.lemmas.Int.{ints, clamps}
use Rattle.std.specs.Ordering.{is_gt}
use Rattle.witness_order.proofs.Placed.{by_test, not_after_back}
use Rattle.witness_order.specs.Rankings.{IsRanking}
use Rattle.monoid_kit.specs.Items.{IsIn}
use Rattle.monoid_kit.specs.Product.{product_by}
use Rattle.semiring_kit.specs.Total.{total}
use Rattle.semiring_kit.specs.Chosen.{chosen, chosen_plus, together}
use Rattle.semiring_kit.specs.Count.{count}
use Rattle.semiring_kit.specs.Truth.{truth}
use Rattle.semiring_kit.specs.Aggregates.{total_weight, cut_length, has_item, chosen_of, IsFurthest}
use Rattle.semiring_kit.specs.Aggregates.{SumCounts, SumTells, SumIsGreatest, SumIsLeast, GreatestIsUpper, LeastIsLower}
use Rattle.semiring_kit.specs.Aggregates.{total_by, SumIsGreatestLex, GreatestLexIsUpper}
use Rattle.semiring_kit.specs.Chosen.{greater_by}
use Rattle.semiring_kit.specs.ChosenLaws.{greater-left, greater-right}
use Rattle.semiring_kit.specs.declared.weight.Lex.{Lex}
use Rattle.semiring_kit.specs.Lex.{lex_order, lex_plus, lex_reach, no_lex, lexes}
use Rattle.semiring_kit.specs.LexLaws.{lexes-IsWeight}

module _ {X : Type 0} where
  -- where each item counts once, their number
  pub total-count : (f : X → ℕ) (xs : List X) → ((x : X) → IsIn x xs → f x ≡ 1) → total count f xs ≡ cut_length xs
  total-count f [] once = refl
  total-count f (x ∷ xs) once =
      let here : f x ≡ 1 = once x (inl refl) in
      let later : total count f xs ≡ cut_length xs = total-count f xs (λ y y_in. once y (inr y_in)) in
      omega (arith, here, later)

  -- where each item holds, whether there is one
  pub total-truth : (f : X → Bool) (xs : List X) → ((x : X) → IsIn x xs → f x ≡ true) → total truth f xs ≡ has_item xs
  total-truth f [] all = refl
  total-truth f (x ∷ xs) all = ap (λ a. truth.add a (total truth f xs)) (all x (inl refl))

  pub product-count : (f : X → ℕ) (xs : List X) → ((x : X) → IsIn x xs → f x ≡ 1)
      → product_by count.one count.mul f xs ≡ 1
  product-count f [] once = refl
  product-count f (x ∷ xs) once =
      ap (λ a. count.mul a (product_by count.one count.mul f xs)) (once x (inl refl))
      ∙ ap (count.mul 1) (product-count f xs (λ y y_in. once y (inr y_in)))

  pub product-truth : (f : X → Bool) (xs : List X) → ((x : X) → IsIn x xs → f x ≡ true)
      → product_by truth.one truth.mul f xs ≡ true
  product-truth f [] all = refl
  product-truth f (x ∷ xs) all =
      ap (λ a. truth.mul a (product_by truth.one truth.mul f xs)) (all x (inl refl))
      ∙ product-truth f xs (λ y y_in. all y (inr y_in))

module _ {W X : Type 0} (nought : W) (plus choose : W → W → W) (reach : W → ℕ) where
  -- where each item has a weight, the chosen one
  pub total-chosen : (f : X → Option W) (weight : X → W) (xs : List X) → ((x : X) → IsIn x xs → f x ≡ Some (weight x))
      → total (chosen_plus nought plus choose reach) f xs ≡ chosen_of choose (map weight xs)
  total-chosen f weight [] has = refl
  total-chosen f weight (x ∷ xs) has =
      ap (λ a. chosen choose a (total (chosen_plus nought plus choose reach) f xs)) (has x (inl refl))
      ∙ ap (chosen choose (Some (weight x))) (total-chosen f weight xs (λ y y_in. has y (inr y_in)))

  -- a product has the weights together
  pub product-together : (f : X → Option W) (weight : X → W) (xs : List X)
      → ((x : X) → IsIn x xs → f x ≡ Some (weight x))
      → product_by (Some nought) (together plus) f xs ≡ Some (product_by nought plus weight xs)
  product-together f weight [] has = refl
  product-together f weight (x ∷ xs) has =
      ap (λ a. together plus a (product_by (Some nought) (together plus) f xs)) (has x (inl refl))
      ∙ ap (together plus (Some (weight x))) (product-together f weight xs (λ y y_in. has y (inr y_in)))

pub sum_counts : SumCounts
sum_counts weight cs = total-count _ cs (λ c c_in. product-count _ c (λ m m_in. refl))

pub sum_tells : SumTells
sum_tells weight cs = total-truth _ cs (λ c c_in. product-truth _ c (λ m m_in. refl))

pub sum_is_greatest : SumIsGreatest
sum_is_greatest weight cs =
    total-chosen (pos 0) ◌+ℤ◌ int_max unsigned_abs _ (total_weight weight) cs
    (λ c c_in. product-together (pos 0) ◌+ℤ◌ int_max unsigned_abs _ weight c (λ m m_in. refl))

pub sum_is_least : SumIsLeast
sum_is_least weight cs =
    total-chosen (pos 0) ◌+ℤ◌ int_min unsigned_abs _ (total_weight weight) cs
    (λ c c_in. product-together (pos 0) ◌+ℤ◌ int_min unsigned_abs _ weight c (λ m m_in. refl))

pub sum_is_greatest_lex : SumIsGreatestLex
sum_is_greatest_lex weight cs =
    total-chosen no_lex lex_plus (greater_by lex_order) lex_reach _ (total_by lexes weight) cs
    (λ c c_in. product-together no_lex lex_plus (greater_by lex_order) lex_reach _ weight c (λ m m_in. refl))

-- what is chosen out of a list

module _ {W : Type 0} (choose : W → W → W) (up_to : W → W → Type 0)
    (same : (a : W) → up_to a a)
    (further : (a b c : W) → up_to a b → up_to b c → up_to a c)
    (one_of : (a b : W) → (choose a b ≡ a) ⊎ (choose a b ≡ b))
    (left_up : (a b : W) → up_to a (choose a b))
    (right_up : (a b : W) → up_to b (choose a b)) where
  furthest-cons : (w : W) (ws : List W) (rest : Option W) → IsFurthest up_to ws rest
      → IsFurthest up_to (w ∷ ws) (chosen choose (Some w) rest)
  furthest-cons w ws None none = (
    inl refl,
    λ u u_in. elim u_in [
      | inl is ↦ subst (λ a. up_to a w) (sym is) (same w)
      | inr later ↦ absurd (subst (IsIn u) none later)
    ],
  )
  furthest-cons w ws (Some v) (v_in, all) = (
    elim (one_of w v) [
      | inl left ↦ inl left
      | inr right ↦ inr (subst (λ a. IsIn a ws) (sym right) v_in)
    ],
    λ u u_in. elim u_in [
      | inl is ↦ subst (λ a. up_to a (choose w v)) (sym is) (left_up w v)
      | inr later ↦ further u v (choose w v) (all u later) (right_up w v)
    ],
  )

  pub chosen_of-IsFurthest : (ws : List W) → IsFurthest up_to ws (chosen_of choose ws)
  chosen_of-IsFurthest [] = refl
  chosen_of-IsFurthest (w ∷ ws) = furthest-cons w ws (chosen_of choose ws) (chosen_of-IsFurthest ws)

greater-one_of : (a b : ℤ) → (int_max a b ≡ a) ⊎ (int_max a b ≡ b)
greater-one_of a b = elim (int_lt b a) as (λ t. (cond t a b ≡ a) ⊎ (cond t a b ≡ b))
    [ true ↦ inl refl | false ↦ inr refl ]

lesser-one_of : (a b : ℤ) → (int_min a b ≡ a) ⊎ (int_min a b ≡ b)
lesser-one_of a b = elim (int_lt b a) as (λ t. (cond t b a ≡ a) ⊎ (cond t b a ≡ b))
    [ true ↦ inr refl | false ↦ inl refl ]

pub greatest_is_upper : GreatestIsUpper
greatest_is_upper weights =
    chosen_of-IsFurthest int_max (λ u w. u ≤ℤ w) (λ a. omega (arith, ints)) (λ a b c first then. omega (arith, ints))
    greater-one_of
    (λ a b. omega (arith, ints, clamps)) (λ a b. omega (arith, ints, clamps)) weights

pub least_is_lower : LeastIsLower
least_is_lower weights =
    chosen_of-IsFurthest int_min (λ u w. w ≤ℤ u) (λ a. omega (arith, ints)) (λ a b c first then. omega (arith, ints))
    lesser-one_of
    (λ a b. omega (arith, ints, clamps)) (λ a b. omega (arith, ints, clamps)) weights

-- by an order

lex_ranking : IsRanking lex_order
lex_ranking = lexes-IsWeight.ranking

lex-left : (a b : Lex) → is_gt (lex_order a b) ≡ true → greater_by lex_order a b ≡ a
lex-left = greater-left lexes lexes-IsWeight

lex-right : (a b : Lex) → is_gt (lex_order a b) ≡ false → greater_by lex_order a b ≡ b
lex-right = greater-right lexes lexes-IsWeight

lex-one_of : (a b : Lex) → (greater_by lex_order a b ≡ a) ⊎ (greater_by lex_order a b ≡ b)
lex-one_of a b = by_test (is_gt (lex_order a b)) (λ after. inl (lex-left a b after)) (λ up. inr (lex-right a b up))

lex-level : (a : Lex) → is_gt (lex_order a a) ≡ false
lex-level a = ap is_gt (tied_itself lex_ranking.total a)

lex-left_up : (a b : Lex) → is_gt (lex_order a (greater_by lex_order a b)) ≡ false
lex-left_up a b =
    by_test (is_gt (lex_order a b))
    (λ after. ap (λ c. is_gt (lex_order a c)) (lex-left a b after) ∙ lex-level a)
    (λ up. ap (λ c. is_gt (lex_order a c)) (lex-right a b up) ∙ up)

lex-right_up : (a b : Lex) → is_gt (lex_order b (greater_by lex_order a b)) ≡ false
lex-right_up a b =
    by_test (is_gt (lex_order a b))
    (λ after. ap (λ c. is_gt (lex_order b c)) (lex-left a b after) ∙ not_after_back lex_order lex_ranking a b after)
    (λ up. ap (λ c. is_gt (lex_order b c)) (lex-right a b up) ∙ lex-level b)

pub greatest_lex_is_upper : GreatestLexIsUpper
greatest_lex_is_upper weights =
    chosen_of-IsFurthest (greater_by lex_order) (λ u w. is_gt (lex_order u w) ≡ false)
    lex-level (upto lex_ranking.total) lex-one_of lex-left_up lex-right_up weights
