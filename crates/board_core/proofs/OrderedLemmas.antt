-- What putting an element into a list in order, and leaving one out, do to sums,
-- to what holds of each element, to the order and to images. Of any list.
use Rattle.std.proofs.Common.{◌≡◌, ◌≢◌, ℕ, ◌+◌, ◌<◌, ◌∙◌, Bool, true, false, ◌||◌, cond, nat_le, List, [], ◌∷◌, ◌++◌}
use Rattle.std.proofs.Common.{length, map, ap, sym, refl, subst, arith}
use Rattle.std.specs.Prelude.{sum_by}
use Rattle.std.specs.List.{list_any}
use Rattle.std.proofs.lemmas.Bool.Decides.{nat_tests}
use Rattle.std.proofs.lemmas.List.Sums.{sum_by-cons}
use Rattle.board_core.specs.Ordered.{put_by, without, Each, IsRisingBy}

module _ {A : Type 0} where
  pub each_map : (P Q : A → Type 0) → ((x : A) → P x → Q x) → (xs : List A) → Each P xs → Each Q xs
  each_map P Q f [] all = tt
  each_map P Q f (x ∷ xs) all = (f x all.0, each_map P Q f xs all.1)

  pub each_both : (P Q R : A → Type 0) → ((x : A) → P x → Q x → R x) → (xs : List A) → Each P xs → Each Q xs → Each R xs
  each_both P Q R f [] all more = tt
  each_both P Q R f (x ∷ xs) all more = (f x all.0 more.0, each_both P Q R f xs all.1 more.1)

  -- no element adds to a sum of 0
  pub each_from_zero : (f : A → ℕ) (xs : List A) → sum_by f xs ≡ 0 → Each (λ x. f x ≡ 0) xs
  each_from_zero f [] none = tt
  each_from_zero f (x ∷ xs) none =
      (omega (arith, sum_by-cons f x xs), each_from_zero f xs (omega (arith, sum_by-cons f x xs)))

  pub zero_from_each : (f : A → ℕ) (xs : List A) → Each (λ x. f x ≡ 0) xs → sum_by f xs ≡ 0
  zero_from_each f [] none = refl
  zero_from_each f (x ∷ xs) none = omega (arith, sum_by-cons f x xs, zero_from_each f xs none.1, none.0)

  -- two neighbours in a list, and the list around them
  pub each_middle : (P : A → Type 0) (before : List A) (x y : A) (behind : List A)
      → Each P (before ++ x ∷ y ∷ behind) → P x × P y
  each_middle P [] x y behind all = (all.0, all.1.0)
  each_middle P (z ∷ before) x y behind all = each_middle P before x y behind all.1

  pub each_around : (P : A → Type 0) (before : List A) (x y : A) (behind : List A)
      → Each P (before ++ x ∷ y ∷ behind) → Each P (before ++ behind)
  each_around P [] x y behind all = all.1.1
  each_around P (z ∷ before) x y behind all = (all.0, each_around P before x y behind all.1)

  pub rising_around : (key : A → ℕ) (before : List A) (x y : A) (behind : List A)
      → IsRisingBy key (before ++ x ∷ y ∷ behind) → IsRisingBy key (before ++ behind)
  rising_around key [] x y behind up = up.1.1
  rising_around key (z ∷ before) x y behind up =
      (each_around (λ w. key z < key w) before x y behind up.0, rising_around key before x y behind up.1)

  module _ (key : A → ℕ) (x : A) where
    pub sum_put : (f : A → ℕ) (ys : List A) → sum_by f (put_by key x ys) ≡ f x + sum_by f ys
    sum_put f [] = sum_by-cons f x []
    sum_put f (y ∷ ys) =
        elim (nat_le (key x) (key y))
        as (λ t. sum_by f (cond t (x ∷ y ∷ ys) (y ∷ put_by key x ys)) ≡ f x + sum_by f (y ∷ ys)) [
          | true ↦ sum_by-cons f x (y ∷ ys)
          | false ↦ omega (arith, sum_by-cons f y (put_by key x ys), sum_by-cons f y ys, sum_put f ys)
        ]

    pub length_put : (ys : List A) → length (put_by key x ys) ≡ length ys + 1
    length_put [] = omega arith
    length_put (y ∷ ys) =
        elim (nat_le (key x) (key y))
        as (λ t. length (cond t (x ∷ y ∷ ys) (y ∷ put_by key x ys)) ≡ length (y ∷ ys) + 1)
        [ true ↦ omega arith | false ↦ omega (arith, length_put ys) ]

    pub each_put : (P : A → Type 0) (ys : List A) → P x → Each P ys → Each P (put_by key x ys)
    each_put P [] here all = (here, tt)
    each_put P (y ∷ ys) here all =
        elim (nat_le (key x) (key y)) as (λ t. Each P (cond t (x ∷ y ∷ ys) (y ∷ put_by key x ys)))
        [ true ↦ (here, (all.0, all.1)) | false ↦ (all.0, each_put P ys here all.1) ]

    pub rising_put : (ys : List A) → Each (λ y. key y ≢ key x) ys → IsRisingBy key ys → IsRisingBy key (put_by key x ys)
    rising_put [] other up = (tt, tt)
    rising_put (y ∷ ys) other up =
        elim (nat_le (key x) (key y))
        as (λ t. nat_le (key x) (key y) ≡ t → IsRisingBy key (cond t (x ∷ y ∷ ys) (y ∷ put_by key x ys))) [
          | true ↦ λ test.
              let apart : key y ≢ key x = other.0 in
              let below : key x < key y = grind (arith, nat_tests) in
              ((below, each_map (λ z. key y < key z) (λ z. key x < key z) (λ z far. omega arith) ys up.0), (up.0, up.1))
          | false ↦ λ test.
              let below : key y < key x = grind (arith, nat_tests) in
              (each_put (λ z. key y < key z) ys below up.0, rising_put ys other.1 up.1)
        ]
        refl

    pub map_put : {B : Type 0} (other : B → ℕ) (f : A → B) → ((y : A) → other (f y) ≡ key y) → (ys : List A)
        → map f (put_by key x ys) ≡ put_by other (f x) (map f ys)
    map_put other f same [] = refl
    map_put other f same (y ∷ ys) =
        ap (λ t. map f (cond t (x ∷ y ∷ ys) (y ∷ put_by key x ys))) tests
        ∙ elim (nat_le (other (f x)) (other (f y)))
        as (λ t. map f (cond t (x ∷ y ∷ ys) (y ∷ put_by key x ys)) ≡ cond t (f x ∷ f y ∷ map f ys)
        (f y ∷ put_by other (f x) (map f ys)))
        [ true ↦ refl | false ↦ ap (λ zs. f y ∷ zs) (map_put other f same ys) ]
      where
        tests : nat_le (key x) (key y) ≡ nat_le (other (f x)) (other (f y))
        tests = ap (λ m. nat_le m (key y)) (sym (same x)) ∙ ap (λ m. nat_le (other (f x)) m) (sym (same y))

  module _ (test : A → Bool) where
    pub each_without : (P : A → Type 0) (xs : List A) → Each P xs → Each P (without test xs)
    each_without P [] all = tt
    each_without P (x ∷ xs) all =
        elim (test x) as (λ t. Each P (cond t xs (x ∷ without test xs)))
        [ true ↦ all.1 | false ↦ (all.0, each_without P xs all.1) ]

    pub rising_without : (key : A → ℕ) (xs : List A) → IsRisingBy key xs → IsRisingBy key (without test xs)
    rising_without key [] up = tt
    rising_without key (x ∷ xs) up =
        elim (test x) as (λ t. IsRisingBy key (cond t xs (x ∷ without test xs)))
        [ true ↦ up.1 | false ↦ (each_without (λ y. key x < key y) xs up.0, rising_without key xs up.1) ]

    -- where the test is passed by one value alone, that value is what is left out
    module _ (value : A) (is_value : (x : A) → test x ≡ true → x ≡ value) where
      pub sum_without : (f : A → ℕ) (xs : List A) → list_any test xs ≡ true
          → sum_by f xs ≡ f value + sum_by f (without test xs)
      sum_without f [] found = cc
      sum_without f (x ∷ xs) found =
          (elim (test x)
          as (λ t. test x ≡ t → (t || list_any test xs) ≡ true
          → sum_by f (x ∷ xs) ≡ f value + sum_by f (cond t xs (x ∷ without test xs))) [
            | true ↦ λ passes here. sum_by-cons f x xs ∙ ap (λ y. f y + sum_by f xs) (is_value x passes)
            | false ↦ λ fails here. omega
                (arith, sum_by-cons f x xs, sum_by-cons f x (without test xs), sum_without f xs here)
          ])
          refl found

      pub length_without : (xs : List A) → list_any test xs ≡ true → length xs ≡ 1 + length (without test xs)
      length_without [] found = cc
      length_without (x ∷ xs) found =
          (elim (test x)
          as (λ t. (t || list_any test xs) ≡ true → length (x ∷ xs) ≡ 1 + length (cond t xs (x ∷ without test xs)))
          [ true ↦ λ here. omega arith | false ↦ λ here. omega (arith, length_without xs here) ])
          found

      pub each_at : (P : A → Type 0) (xs : List A) → list_any test xs ≡ true → Each P xs → P value
      each_at P [] found all = cc
      each_at P (x ∷ xs) found all =
          (elim (test x)
          as (λ t. test x ≡ t → (t || list_any test xs) ≡ true → P value)
          [ true ↦ λ passes here. subst P (is_value x passes) all.0 | false ↦ λ fails here. each_at P xs here all.1 ])
          refl found
