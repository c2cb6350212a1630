-- Lists over the numbers of a range.
use Rattle.std.proofs.Common.{◌≡◌, ℕ, zero, suc, ◌+◌, ◌<◌, ◌≤◌, ◌==◌, Bool, true, false, List, [], ◌∷◌, map}
use Rattle.std.proofs.Common.{length, get_or, All, refl, sym, subst, ap, ◌∙◌, arith}
use Rattle.std.specs.List.{list_any, range_with_len}
use Rattle.std.proofs.lemmas.Bool.Decides.{nat_tests}
use Rattle.std.proofs.lemmas.List.FromFn.{get_or-range_with_len, length-range_with_len}

pub by_test : {P : Type 0} (t : Bool) → (t ≡ true → P) → (t ≡ false → P) → P
by_test true here off = here refl
by_test false here off = off refl

pub map-range-same : {A : Type 0} (f g : ℕ → A) (a n : ℕ) → ((k : ℕ) → a ≤ k → k < a + n → f k ≡ g k)
    → map f (range_with_len a n) ≡ map g (range_with_len a n)
map-range-same f g a zero same = refl
map-range-same f g a (suc n) same =
    ap (λ x. x ∷ map f (range_with_len (a + 1) n)) (same a (omega arith) (omega arith))
    ∙ ap (λ xs. g a ∷ xs) (map-range-same f g (a + 1) n (λ k low below. same k (omega arith) (omega arith)))

pub in-range : (a n k : ℕ) → a ≤ k → k < a + n → list_any (λ t. t == k) (range_with_len a n) ≡ true
in-range a zero k low below = absurd (omega arith)
in-range a (suc n) k low below =
    by_test (a == k) (λ here. rw here refl)
    (λ off. rw off (in-range (a + 1) n k (grind (arith, nat_tests)) (omega arith)))

-- the items of a list by their numbers
numbered-from : {A : Type 0} (f : ℕ → A) (xs : List A) (d : A) (a : ℕ)
    → ((k : ℕ) → k < length xs → f (a + k) ≡ get_or xs k d) → map f (range_with_len a (length xs)) ≡ xs
numbered-from f [] d a same = refl
numbered-from f (x ∷ xs) d a same =
    ap (λ y. y ∷ map f (range_with_len (a + 1) (length xs))) (ap f (omega arith) ∙ same 0 (omega arith))
    ∙ ap (λ ys. x ∷ ys) (numbered-from f xs d (a + 1) (λ k below. ap f (omega arith) ∙ same (suc k) (omega arith)))

pub numbered : {A : Type 0} (xs : List A) (d : A) → map (λ k. get_or xs k d) (range_with_len 0 (length xs)) ≡ xs
numbered xs d = numbered-from (λ k. get_or xs k d) xs d 0 (λ k below. ap (λ n. get_or xs n d) (omega arith))

pub All-range : (P : ℕ → Type 0) (n : ℕ) → ((k : ℕ) → k < n → P k) → All P (range_with_len 0 n)
All-range P n each k d below =
    let in_range : k < n = omega (arith, length-range_with_len 0 n) in
    subst P (sym (get_or-range_with_len 0 n k d in_range)) (each (0 + k) (omega arith))
