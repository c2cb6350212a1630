-- The first item of a list that a test holds of.
use Rattle.std.proofs.Common.{◌≡◌, ℕ, zero, suc, ◌<◌, Bool, true, false, List, [], ◌∷◌, map, length, get_or, Some}
use Rattle.std.proofs.Common.{None, refl, ap, ◌∙◌, arith}
use Rattle.std.proofs.Math.ListN.{get_or-map}
use Rattle.std.proofs.lemmas.List.{length-map}
use Rattle.std.proofs.lemmas.List.FromFn.{get_or-range_with_len, length-range_with_len}
use Rattle.std.specs.List.{find, range_with_len}

module _ {A : Type 0} (p : A → Bool) where
  -- it holds of the item at i and of none before it
  pub find-first : (xs : List A) (i : ℕ) (d : A) → i < length xs
      → ((k : ℕ) → k < i → p (get_or xs k d) ≡ false) → p (get_or xs i d) ≡ true
      → find p xs ≡ Some (get_or xs i d)
  find-first [] i d below before here = absurd (omega arith)
  find-first (x ∷ xs) zero d below before here = rw here refl
  find-first (x ∷ xs) (suc i) d below before here =
      let fails : p x ≡ false = before 0 (omega arith) in
      rw fails (find-first xs i d (omega arith) (λ k less. before (suc k) (omega arith)) here)

  -- it holds of none
  pub find-none : (xs : List A) → ((k : ℕ) (d : A) → k < length xs → p (get_or xs k d) ≡ false) → find p xs ≡ None
  find-none [] nowhere = refl
  find-none (x ∷ xs) nowhere =
      let fails : p x ≡ false = nowhere 0 x (omega arith) in
      rw fails (find-none xs (λ k d less. nowhere (suc k) d (omega arith)))

-- the same over what f gives at the items
module _ {A B : Type 0} (f : A → B) (p : B → Bool) where
  pub find-map-first : (xs : List A) (i : ℕ) (d : A) → i < length xs
      → ((k : ℕ) → k < i → p (f (get_or xs k d)) ≡ false) → p (f (get_or xs i d)) ≡ true
      → find p (map f xs) ≡ Some (f (get_or xs i d))
  find-map-first xs i d below before here =
      find-first p (map f xs) i (f d) (simp length-map below)
      (λ k less. ap p (get_or-map f xs k d) ∙ before k less) (ap p (get_or-map f xs i d) ∙ here)
      ∙ ap Some (get_or-map f xs i d)

  pub find-map-none : (xs : List A) → ((k : ℕ) (d : A) → k < length xs → p (f (get_or xs k d)) ≡ false)
      → find p (map f xs) ≡ None
  find-map-none [] nowhere = refl
  find-map-none (x ∷ xs) nowhere =
      let fails : p (f x) ≡ false = nowhere 0 x (omega arith) in
      rw fails (find-map-none xs (λ k d less. nowhere (suc k) d (omega arith)))

-- the same over the numbers below n
module _ (p : ℕ → Bool) where
  pub find-range-first : (n i : ℕ) → i < n → ((k : ℕ) → k < i → p k ≡ false) → p i ≡ true
      → find p (range_with_len 0 n) ≡ Some i
  find-range-first n i below before here =
      let at : (k : ℕ) → k < n → get_or (range_with_len 0 n) k 0 ≡ k =
      λ k less. get_or-range_with_len 0 n k 0 less ∙ omega arith in
      find-first p (range_with_len 0 n) i 0 (simp length-range_with_len below)
      (λ k less. ap p (at k (omega arith)) ∙ before k less) (ap p (at i below) ∙ here) ∙ ap Some (at i below)

  pub find-range-none : (n : ℕ) → ((k : ℕ) → k < n → p k ≡ false) → find p (range_with_len 0 n) ≡ None
  find-range-none n nowhere =
      find-none p (range_with_len 0 n) (λ k d less.
      let below : k < n = simp length-range_with_len at less in
      ap p (get_or-range_with_len 0 n k d below ∙ omega arith) ∙ nowhere k below)
