-- Lemmas on lists put in order, over any ranking. In every list, in order or not, two items may be placed in
-- either order, and what lies past the first k stays there. So the first k of a list depend on no order of its
-- items, and cutting a part of it to its first k changes nothing.
use Rattle.std.proofs.Common.{◌≡◌, ℕ, zero, suc, Bool, true, false, List, [], ◌∷◌, ◌++◌, length, map, take, refl, sym}
use Rattle.std.proofs.Common.{ap, subst, ◌∙◌}
use Rattle.std.specs.declared.cmp.Ordering.{Ordering}
use Rattle.std.specs.declared.cmp.Ordering.TheVariants.{Less, Equal, Greater}
use Rattle.std.specs.Ordering.{is_gt, ordering_reverse}
use Rattle.std.proofs.lemmas.Cmp.{upto}
use Rattle.std.proofs.lemmas.List.{take-map}
use Rattle.witness_order.specs.Rankings.{IsRanking}
use Rattle.witness_order.specs.Ranked.{placed, ranked, first_of}

pub by_test : {P : Type 0} (b : Bool) → (b ≡ true → P) → (b ≡ false → P) → P
by_test true holds fails = holds refl
by_test false holds fails = fails refl

turned_after : (o p : Ordering) → o ≡ ordering_reverse p → is_gt o ≡ true → is_gt p ≡ false
turned_after o Less turned after = refl
turned_after o Equal turned after = refl
turned_after o Greater turned after = let not_after = ap is_gt turned in cc

turned_equal : (o p : Ordering) → o ≡ ordering_reverse p → is_gt o ≡ false → is_gt p ≡ false → o ≡ Equal
turned_equal o Less turned first second = let after = ap is_gt turned in cc
turned_equal o Equal turned first second = turned
turned_equal o Greater turned first second = cc

module _ {E : Type 0} (cmp : E → E → Ordering) where
  -- all of xs put into a list
  abbrev pub placed_all : List E → List E → List E
  placed_all [] s = s
  placed_all (x ∷ xs) s = placed cmp x (placed_all xs s)

  pub placed-after : (x a : E) (s : List E) → is_gt (cmp x a) ≡ true → placed cmp x (a ∷ s) ≡ a ∷ placed cmp x s
  placed-after x a s after = rw after refl

  pub placed-before : (x a : E) (s : List E) → is_gt (cmp x a) ≡ false → placed cmp x (a ∷ s) ≡ x ∷ a ∷ s
  placed-before x a s not_after = rw not_after refl

  pub ranked-append : (xs ys : List E) → ranked cmp (xs ++ ys) ≡ placed_all xs (ranked cmp ys)
  ranked-append [] ys = refl
  ranked-append (x ∷ xs) ys = ap (placed cmp x) (ranked-append xs ys)

  pub ranked-placed_all : (xs : List E) → ranked cmp xs ≡ placed_all xs []
  ranked-placed_all [] = refl
  ranked-placed_all (x ∷ xs) = ap (placed cmp x) (ranked-placed_all xs)

  pub length-placed : (x : E) (s : List E) → length (placed cmp x s) ≡ suc (length s)
  length-placed x [] = refl
  length-placed x (a ∷ s) =
      by_test (is_gt (cmp x a))
      (λ after. ap length (placed-after x a s after) ∙ ap suc (length-placed x s))
      (λ not_after. ap length (placed-before x a s not_after))

  pub length-ranked : (xs : List E) → length (ranked cmp xs) ≡ length xs
  length-ranked [] = refl
  length-ranked (x ∷ xs) = length-placed x (ranked cmp xs) ∙ ap suc (length-ranked xs)

  -- what lies past the first k stays there

  pub take-placed : (k : ℕ) (x : E) (s : List E) → take k (placed cmp x s) ≡ take k (placed cmp x (take k s))
  take-placed zero x s = refl
  take-placed (suc k) x [] = refl
  take-placed (suc k) x (a ∷ s) =
      by_test (is_gt (cmp x a))
      (λ after.
      ap (take (suc k)) (placed-after x a s after) ∙ ap (λ l. a ∷ l) (take-placed k x s)
      ∙ sym (ap (take (suc k)) (placed-after x a (take k s) after)))
      (λ not_after.
      ap (take (suc k)) (placed-before x a s not_after) ∙ ap (λ l. x ∷ l) (front k a s)
      ∙ sym (ap (take (suc k)) (placed-before x a (take k s) not_after)))
    where
      front : (k : ℕ) (a : E) (s : List E) → take k (a ∷ s) ≡ take k (a ∷ take k s)
      front zero a s = refl
      front (suc k) a s = ap (λ l. a ∷ l) (take-front k s)
        where
          take-front : (k : ℕ) (s : List E) → take k s ≡ take k (take (suc k) s)
          take-front zero s = refl
          take-front (suc k) [] = refl
          take-front (suc k) (b ∷ s) = ap (λ l. b ∷ l) (take-front k s)

  pub take-placed_all : (k : ℕ) (xs s : List E) → take k (placed_all xs s) ≡ take k (placed_all xs (take k s))
  take-placed_all k [] s = take-take k s
    where
      take-take : (k : ℕ) (s : List E) → take k s ≡ take k (take k s)
      take-take zero s = refl
      take-take (suc k) [] = refl
      take-take (suc k) (a ∷ s) = ap (λ l. a ∷ l) (take-take k s)
  take-placed_all k (x ∷ xs) s =
      take-placed k x (placed_all xs s)
      ∙ ap (λ l. take k (placed cmp x l)) (take-placed_all k xs s)
      ∙ sym (take-placed k x (placed_all xs (take k s)))

module _ {E : Type 0} (cmp : E → E → Ordering) (order : IsRanking cmp) where
  pub not_after_back : (x y : E) → is_gt (cmp x y) ≡ true → is_gt (cmp y x) ≡ false
  not_after_back x y after = turned_after (cmp x y) (cmp y x) (order.total.antisymm x y) after

  pub same_from_both : (x y : E) → is_gt (cmp x y) ≡ false → is_gt (cmp y x) ≡ false → x ≡ y
  same_from_both x y first second =
      order.same x y (turned_equal (cmp x y) (cmp y x) (order.total.antisymm x y) first second)

  -- what comes after a comes after all that doesn't
  pub after_further : (x y a : E) → is_gt (cmp x a) ≡ false → is_gt (cmp y a) ≡ true → is_gt (cmp y x) ≡ true
  after_further x y a not_after after =
      by_test (is_gt (cmp y x)) (λ further. further)
      (λ not_further. let up_to = upto order.total y x a not_further not_after in cc)

  -- what doesn't come before y comes after all that y comes after
  pub after_later : (y z a : E) → is_gt (cmp y z) ≡ false → is_gt (cmp y a) ≡ true → is_gt (cmp z a) ≡ true
  after_later y z a later after =
      by_test (is_gt (cmp z a)) (λ further. further)
      (λ not_further. let up_to = upto order.total y z a later not_further in cc)

  -- two items may be placed in either order

  swap_front : (x y : E) (s : List E) → is_gt (cmp x y) ≡ true
      → placed cmp y s ≡ y ∷ s → placed cmp x s ≡ x ∷ s
      → placed cmp x (placed cmp y s) ≡ placed cmp y (placed cmp x s)
  swap_front x y s after y_front x_front =
      ap (placed cmp x) y_front ∙ placed-after cmp x y s after ∙ ap (λ l. y ∷ l) x_front
      ∙ sym (placed-before cmp y x s (not_after_back x y after)) ∙ ap (placed cmp y) (sym x_front)

  swap_same : (x y : E) (s : List E) → x ≡ y
      → placed cmp x (placed cmp y s) ≡ placed cmp y (placed cmp x s)
  swap_same x y s same = subst (λ z. placed cmp x (placed cmp z s) ≡ placed cmp z (placed cmp x s)) same refl

  swap_apart : (x y a : E) (s : List E) → is_gt (cmp x a) ≡ false → is_gt (cmp y a) ≡ true
      → placed cmp x (placed cmp y (a ∷ s)) ≡ placed cmp y (placed cmp x (a ∷ s))
  swap_apart x y a s x_not_after y_after =
      ap (placed cmp x) (placed-after cmp y a s y_after) ∙ placed-before cmp x a (placed cmp y s) x_not_after
      ∙ ap (λ l. x ∷ l) (sym (placed-after cmp y a s y_after))
      ∙ sym (placed-after cmp y x (a ∷ s) (after_further x y a x_not_after y_after))
      ∙ ap (placed cmp y) (sym (placed-before cmp x a s x_not_after))

  swap_here : (x y : E) (s : List E) → placed cmp y s ≡ y ∷ s → placed cmp x s ≡ x ∷ s
      → placed cmp x (placed cmp y s) ≡ placed cmp y (placed cmp x s)
  swap_here x y s y_front x_front =
      by_test (is_gt (cmp x y)) (λ x_after. swap_front x y s x_after y_front x_front)
      (λ x_not_after.
      by_test (is_gt (cmp y x)) (λ y_after. sym (swap_front y x s y_after x_front y_front))
      (λ y_not_after. swap_same x y s (same_from_both x y x_not_after y_not_after)))

  pub placed-swap : (x y : E) (s : List E) → placed cmp x (placed cmp y s) ≡ placed cmp y (placed cmp x s)
  placed-swap x y [] = swap_here x y [] refl refl
  placed-swap x y (a ∷ s) =
      by_test (is_gt (cmp x a))
      (λ x_after.
      by_test (is_gt (cmp y a))
      (λ y_after.
      ap (placed cmp x) (placed-after cmp y a s y_after) ∙ placed-after cmp x a (placed cmp y s) x_after
      ∙ ap (λ l. a ∷ l) (placed-swap x y s)
      ∙ sym (placed-after cmp y a (placed cmp x s) y_after)
      ∙ ap (placed cmp y) (sym (placed-after cmp x a s x_after)))
      (λ y_not_after. sym (swap_apart y x a s y_not_after x_after)))
      (λ x_not_after.
      by_test (is_gt (cmp y a)) (λ y_after. swap_apart x y a s x_not_after y_after)
      (λ y_not_after.
      swap_here x y (a ∷ s) (placed-before cmp y a s y_not_after) (placed-before cmp x a s x_not_after)))

  placed-placed_all : (x : E) (ys s : List E)
      → placed cmp x (placed_all cmp ys s) ≡ placed_all cmp ys (placed cmp x s)
  placed-placed_all x [] s = refl
  placed-placed_all x (y ∷ ys) s =
      placed-swap x y (placed_all cmp ys s) ∙ ap (placed cmp y) (placed-placed_all x ys s)

  pub placed_all-swap : (xs ys s : List E)
      → placed_all cmp xs (placed_all cmp ys s) ≡ placed_all cmp ys (placed_all cmp xs s)
  placed_all-swap [] ys s = refl
  placed_all-swap (x ∷ xs) ys s =
      ap (placed cmp x) (placed_all-swap xs ys s) ∙ placed-placed_all x ys (placed_all cmp xs s)

  pub ranked-append_comm : (xs ys : List E) → ranked cmp (xs ++ ys) ≡ ranked cmp (ys ++ xs)
  ranked-append_comm xs ys =
      ranked-append cmp xs ys ∙ ap (placed_all cmp xs) (ranked-placed_all cmp ys)
      ∙ placed_all-swap xs ys []
      ∙ ap (placed_all cmp ys) (sym (ranked-placed_all cmp xs)) ∙ sym (ranked-append cmp ys xs)

-- a function that keeps the order

module _ {E F : Type 0} (cmp : E → E → Ordering) (cmp_of : F → F → Ordering) (f : E → F)
    (keeps : (x y : E) → cmp_of (f x) (f y) ≡ cmp x y) where
  pub placed-map : (x : E) (s : List E) → placed cmp_of (f x) (map f s) ≡ map f (placed cmp x s)
  placed-map x [] = refl
  placed-map x (a ∷ s) =
      by_test (is_gt (cmp x a))
      (λ after.
      placed-after cmp_of (f x) (f a) (map f s) (ap is_gt (keeps x a) ∙ after)
      ∙ ap (λ l. f a ∷ l) (placed-map x s) ∙ sym (ap (map f) (placed-after cmp x a s after)))
      (λ not_after.
      placed-before cmp_of (f x) (f a) (map f s) (ap is_gt (keeps x a) ∙ not_after)
      ∙ sym (ap (map f) (placed-before cmp x a s not_after)))

  pub ranked-map : (xs : List E) → ranked cmp_of (map f xs) ≡ map f (ranked cmp xs)
  ranked-map [] = refl
  ranked-map (x ∷ xs) = ap (placed cmp_of (f x)) (ranked-map xs) ∙ placed-map x (ranked cmp xs)

  pub first_of-map : (k : ℕ) (xs : List E) → first_of cmp_of k (map f xs) ≡ map f (first_of cmp k xs)
  first_of-map k xs = ap (take k) (ranked-map xs) ∙ take-map f k (ranked cmp xs)
