-- Lemmas on the first item that a test holds of, in lists that stand one after the other.
use Rattle.std.proofs.Common.{◌≡◌, ℕ, zero, suc, ◌<◌, Bool, List, [], ◌∷◌, length, get_or, Some, None}
use Rattle.std.proofs.Common.{inl, inr, refl, sym, ap, ◌∙◌, arith}
use Rattle.std.specs.Option.{option_or}
use Rattle.std.specs.List.{find, flat_map, range_with_len}
use Rattle.std.proofs.lemmas.List.Folds.{find-append}
use Rattle.std.proofs.lemmas.List.FromFn.{get_or-range_with_len, length-range_with_len}
use Rattle.monoid_kit.specs.Items.{IsIn}
use Rattle.monoid_kit.proofs.Finds.{option_or-first_none, option_or-second_none, IsIn-range, IsIn-range_of}

module _ {A B : Type 0} (p : B → Bool) (g : A → List B) where
  find-flat_map_cons : (x : A) (xs : List A)
      → find p (flat_map g (x ∷ xs)) ≡ option_or (find p (g x)) (find p (flat_map g xs))
  find-flat_map_cons x xs = find-append p (g x) (flat_map g xs)

  find-flat_map_nowhere : (xs : List A) → ((x : A) → IsIn x xs → find p (g x) ≡ None) → find p (flat_map g xs) ≡ None
  find-flat_map_nowhere [] fails = refl
  find-flat_map_nowhere (x ∷ xs) fails =
      find-flat_map_cons x xs
      ∙ ap (λ o. option_or o (find p (flat_map g xs))) (fails x (inl refl))
      ∙ find-flat_map_nowhere xs (λ z z_in. fails z (inr z_in))

  find-flat_map_none : (xs : List A) → find p (flat_map g xs) ≡ None → (x : A) → IsIn x xs → find p (g x) ≡ None
  find-flat_map_none [] none x x_in = absurd x_in
  find-flat_map_none (z ∷ zs) none x x_in =
      let both = sym (find-flat_map_cons z zs) ∙ none in
      elim x_in [
        | inl same ↦ ap (λ w. find p (g w)) same ∙ option_or-first_none _ _ both
        | inr later ↦ find-flat_map_none zs (option_or-second_none _ _ both) x later
      ]

  find-flat_map_at : (xs : List A) (i : ℕ) (d : A) (y : B) → i < length xs
      → ((k : ℕ) → k < i → find p (g (get_or xs k d)) ≡ None) → find p (g (get_or xs i d)) ≡ Some y
      → find p (flat_map g xs) ≡ Some y
  find-flat_map_at [] i d y below before here = absurd (omega arith)
  find-flat_map_at (x ∷ xs) zero d y below before here =
      find-flat_map_cons x xs ∙ ap (λ o. option_or o (find p (flat_map g xs))) here
  find-flat_map_at (x ∷ xs) (suc i) d y below before here =
      find-flat_map_cons x xs
      ∙ ap (λ o. option_or o (find p (flat_map g xs))) (before 0 (omega arith))
      ∙ find-flat_map_at xs i d y (omega arith) (λ k less. before (suc k) (omega arith)) here

-- a list for each number below n
module _ {B : Type 0} (p : B → Bool) (g : ℕ → List B) (n : ℕ) where
  at-range : (k : ℕ) → k < n → get_or (range_with_len 0 n) k 0 ≡ k
  at-range k below = get_or-range_with_len 0 n k 0 below ∙ omega arith

  pub find-flat_map_range_at : (i : ℕ) (y : B) → i < n
      → ((k : ℕ) → k < i → find p (g k) ≡ None) → find p (g i) ≡ Some y
      → find p (flat_map g (range_with_len 0 n)) ≡ Some y
  find-flat_map_range_at i y below before here =
      find-flat_map_at p g (range_with_len 0 n) i 0 y (simp length-range_with_len below)
      (λ k less. ap (λ x. find p (g x)) (at-range k (omega arith)) ∙ before k less)
      (ap (λ x. find p (g x)) (at-range i below) ∙ here)

  pub find-flat_map_range_nowhere : ((k : ℕ) → k < n → find p (g k) ≡ None)
      → find p (flat_map g (range_with_len 0 n)) ≡ None
  find-flat_map_range_nowhere fails =
      find-flat_map_nowhere p g (range_with_len 0 n) (λ k k_in. fails k (IsIn-range n k k_in))

  pub find-flat_map_range_none : find p (flat_map g (range_with_len 0 n)) ≡ None
      → (k : ℕ) → k < n → find p (g k) ≡ None
  find-flat_map_range_none none k below =
      find-flat_map_none p g (range_with_len 0 n) none k (IsIn-range_of 0 n k (omega arith) (omega arith))
