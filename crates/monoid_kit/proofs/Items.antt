-- Lemmas on the items of lists.
use Rattle.std.proofs.Common.{◌≡◌, ℕ, zero, suc, ◌<◌, Bool, true, false, List, [], ◌∷◌, ◌++◌, length, get_or, take}
use Rattle.std.proofs.Common.{map, cond, inl, inr, refl, sym, subst, arith}
use Rattle.std.specs.List.{filter, flat_map}
use Rattle.monoid_kit.specs.Items.{IsIn, AllElements}

module _ {E X : Type 0} (is_element : E → Type 0) (f : X → E) where
  pub AllElements-append : (xs ys : List X) → AllElements is_element f xs → AllElements is_element f ys
      → AllElements is_element f (xs ++ ys)
  AllElements-append [] ys in_xs in_ys = in_ys
  AllElements-append (x ∷ xs) ys in_xs in_ys = λ y y_in. elim y_in [
    | inl same ↦ in_xs y (inl same)
    | inr later ↦ AllElements-append xs ys (λ z z_in. in_xs z (inr z_in)) in_ys y later
  ]

  pub AllElements-flat_map : {Y : Type 0} (g : Y → List X) (ys : List Y)
      → ((y : Y) → IsIn y ys → AllElements is_element f (g y))
      → AllElements is_element f (flat_map g ys)
  AllElements-flat_map g [] in_each = λ y y_in. absurd y_in
  AllElements-flat_map g (y ∷ ys) in_each =
      AllElements-append (g y) (flat_map g ys) (in_each y (inl refl))
      (AllElements-flat_map g ys (λ z z_in. in_each z (inr z_in)))

  pub AllElements-map : {Y : Type 0} (g : Y → X) (ys : List Y)
      → AllElements is_element (λ y. f (g y)) ys → AllElements is_element f (map g ys)
  AllElements-map g [] in_ys = λ y y_in. absurd y_in
  AllElements-map g (y ∷ ys) in_ys = λ x x_in. elim x_in [
    | inl same ↦ subst (λ z. is_element (f z)) (sym same) (in_ys y (inl refl))
    | inr later ↦ AllElements-map g ys (λ z z_in. in_ys z (inr z_in)) x later
  ]

  AllElements-cons_where : (test : Bool) (x : X) (xs : List X) → is_element (f x) → AllElements is_element f xs
      → AllElements is_element f (cond test (x ∷ xs) xs)
  AllElements-cons_where true x xs in_x in_xs = λ y y_in. elim y_in [
    | inl same ↦ subst (λ z. is_element (f z)) (sym same) in_x
    | inr later ↦ in_xs y later
  ]
  AllElements-cons_where false x xs in_x in_xs = in_xs

  pub AllElements-filter : (test : X → Bool) (xs : List X)
      → AllElements is_element f xs → AllElements is_element f (filter test xs)
  AllElements-filter test [] in_xs = in_xs
  AllElements-filter test (x ∷ xs) in_xs =
      AllElements-cons_where (test x) x (filter test xs) (in_xs x (inl refl))
      (AllElements-filter test xs (λ z z_in. in_xs z (inr z_in)))

  pub AllElements-pairs : {Y Z : Type 0} (g : Y → Z → X) (ys : List Y) (zs : List Z)
      → ((y : Y) → IsIn y ys → AllElements is_element (λ z. f (g y z)) zs)
      → AllElements is_element f (flat_map (λ y. map (g y) zs) ys)
  AllElements-pairs g ys zs in_each =
      AllElements-flat_map (λ y. map (g y) zs) ys (λ y y_in. AllElements-map (g y) zs (in_each y y_in))

module _ {X : Type 0} where
  pub IsIn-get_or : (xs : List X) (i : ℕ) (default : X) → i < length xs → IsIn (get_or xs i default) xs
  IsIn-get_or [] i default in_xs = absurd (omega arith)
  IsIn-get_or (x ∷ xs) zero default in_xs = inl refl
  IsIn-get_or (x ∷ xs) (suc i) default in_xs = inr (IsIn-get_or xs i default (omega arith))

  -- what a read of the list gives
  pub IsIn-read : (xs : List X) (i : ℕ) (x : X) → i < length xs → x ≡ get_or xs i x → IsIn x xs
  IsIn-read xs i x in_xs is = subst (λ y. IsIn y xs) (sym is) (IsIn-get_or xs i x in_xs)

  -- an item has a place
  pub IsIn-place : (xs : List X) (x default : X) → IsIn x xs → (i : ℕ) × (i < length xs) × (get_or xs i default ≡ x)
  IsIn-place [] x default x_in = absurd x_in
  IsIn-place (y ∷ xs) x default x_in = elim x_in [
    | inl same ↦ (0, omega arith, sym same)
    | inr later ↦
        let there = IsIn-place xs x default later in
        let below : there.0 < length xs = there.1 in
        (suc there.0, omega arith, there.2)
  ]

  pub IsIn-take : (n : ℕ) (xs : List X) (x : X) → IsIn x (take n xs) → IsIn x xs
  IsIn-take zero xs x x_in = absurd x_in
  IsIn-take (suc n) [] x x_in = absurd x_in
  IsIn-take (suc n) (y ∷ xs) x x_in = elim x_in [
    | inl same ↦ inl same
    | inr later ↦ inr (IsIn-take n xs x later)
  ]

  pub IsIn-append_left : (xs ys : List X) (x : X) → IsIn x xs → IsIn x (xs ++ ys)
  IsIn-append_left [] ys x x_in = absurd x_in
  IsIn-append_left (y ∷ xs) ys x x_in = elim x_in [
    | inl same ↦ inl same
    | inr later ↦ inr (IsIn-append_left xs ys x later)
  ]

  pub IsIn-append_right : (xs ys : List X) (x : X) → IsIn x ys → IsIn x (xs ++ ys)
  IsIn-append_right [] ys x x_in = x_in
  IsIn-append_right (y ∷ xs) ys x x_in = inr (IsIn-append_right xs ys x x_in)
