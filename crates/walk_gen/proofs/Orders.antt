-- Lists put together in another order.
use Rattle.std.proofs.Common.{◌≡◌, ℕ, zero, suc, ◌+◌, ◌<◌, ◌≤◌, nat_eq, cond, List, [], ◌∷◌, ◌++◌}
use Rattle.std.proofs.Common.{All, refl, sym, ap, ◌∙◌, subst, append_assoc, inl, inr, arith}
use Rattle.std.specs.List.{flat_map, range_with_len}
use Rattle.std.specs.List.Sorted.{IsPermutation}
use Rattle.std.proofs.lemmas.Bool.{cases_eq, eq-eqb, ne_eqb}
use Rattle.std.proofs.lemmas.List.{append-nil}
use Rattle.std.proofs.lemmas.List.Sorted.{IsPermutation-refl, IsPermutation-sym, IsPermutation-trans}
use Rattle.std.proofs.lemmas.List.Sorted.{IsPermutation-append_comm, IsPermutation-append_left, IsPermutation-append_right}

module _ {X : Type 0} where
  pub both : (a b c d : List X) → IsPermutation a b → IsPermutation c d → IsPermutation (a ++ c) (b ++ d)
  both a b c d p q = IsPermutation-trans (a ++ c) (b ++ c) (b ++ d) (IsPermutation-append_left c a b p)
      (IsPermutation-append_right b c d q)

  middle : (a b c d : List X) → IsPermutation ((a ++ b) ++ (c ++ d)) ((a ++ c) ++ (b ++ d))
  middle a b c d =
      let from : (a ++ b) ++ (c ++ d) ≡ a ++ ((b ++ c) ++ d) =
      append_assoc a b (c ++ d) ∙ ap (λ l. a ++ l) (sym (append_assoc b c d)) in
      let to : (a ++ c) ++ (b ++ d) ≡ a ++ ((c ++ b) ++ d) =
      append_assoc a c (b ++ d) ∙ ap (λ l. a ++ l) (sym (append_assoc c b d)) in
      subst (λ l. IsPermutation l ((a ++ c) ++ (b ++ d))) (sym from)
      (subst (λ l. IsPermutation (a ++ ((b ++ c) ++ d)) l) (sym to)
      (IsPermutation-append_right a ((b ++ c) ++ d) ((c ++ b) ++ d)
      (IsPermutation-append_left d (b ++ c) (c ++ b) (IsPermutation-append_comm b c))))

  module _ {A : Type 0} where
    pub each_moved : (P : A → Type 0) (f g : A → List X) (xs : List A) → All P xs
        → ((x : A) → P x → IsPermutation (f x) (g x)) → IsPermutation (flat_map f xs) (flat_map g xs)
    each_moved P f g [] all moved = IsPermutation-refl []
    each_moved P f g (x ∷ xs) all moved =
        both (f x) (g x) (flat_map f xs) (flat_map g xs) (moved x (all 0 x (omega arith)))
        (each_moved P f g xs (λ k d lt. all (suc k) d (omega arith)) moved)

    pub none_of_each : (xs : List A) → flat_map {X = A} {A = X} (λ x. []) xs ≡ []
    none_of_each [] = refl
    none_of_each (x ∷ xs) = none_of_each xs

    interleaved : (g h : A → List X) (xs : List A)
        → IsPermutation (flat_map (λ x. g x ++ h x) xs) (flat_map g xs ++ flat_map h xs)
    interleaved g h [] = IsPermutation-refl []
    interleaved g h (x ∷ xs) =
        IsPermutation-trans _ _ _
        (IsPermutation-append_right (g x ++ h x) _ _ (interleaved g h xs))
        (middle (g x) (h x) (flat_map g xs) (flat_map h xs))

  -- lists for each pair, by the first and then by the second, or the other way round
  pub swapped : {A B : Type 0} (f : A → B → List X) (xs : List A) (ys : List B)
      → IsPermutation (flat_map (λ x. flat_map (f x) ys) xs) (flat_map (λ y. flat_map (λ x. f x y) xs) ys)
  swapped f [] ys = subst (λ l. IsPermutation [] l) (sym (none_of_each ys)) (IsPermutation-refl [])
  swapped f (x ∷ xs) ys =
      IsPermutation-trans _ _ _
      (IsPermutation-append_right (flat_map (f x) ys) _ _ (swapped f xs ys))
      (IsPermutation-sym _ _ (interleaved (f x) (λ y. flat_map (λ x. f x y) xs) ys))

  -- of a range the lists of one number alone
  pub of_one : (F : ℕ → List X) (number first n : ℕ) → first ≤ number → number < first + n
      → flat_map (λ k. cond (nat_eq k number) (F k) []) (range_with_len first n) ≡ F number
  of_one F number first zero from to = absurd (omega arith)
  of_one F number first (suc n) from to =
      elim (cases_eq first number) [
        | inl here ↦ rw (eq-eqb first number here, none_else (first + 1) n (omega arith))
            (append-nil (F first) ∙ ap F here)
        | inr other ↦ rw (ne_eqb first number other) (of_one F number (first + 1) n (omega arith) (omega arith))
      ]
    where
      none_else : (low n : ℕ) → number < low
          → flat_map (λ k. cond (nat_eq k number) (F k) []) (range_with_len low n) ≡ []
      none_else low zero past = refl
      none_else low (suc n) past =
          rw (ne_eqb low number (λ e. omega arith)) (none_else (low + 1) n (omega arith))
