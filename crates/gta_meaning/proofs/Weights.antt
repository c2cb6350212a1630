-- The weight of a row and of the first rows, one item at a time.
use Rattle.std.proofs.Common.{◌≡◌, ℕ, ◌+◌, ◌<◌, max, sum, List, [], ◌∷◌, length, map, take, get_or, ap, ◌∙◌, arith}
use Rattle.std.proofs.lemmas.List.{map-append, take_more}
use Rattle.std.proofs.lemmas.List.Sums.{fold_push}
use Rattle.std.proofs.lemmas.List.FromFn.{map-range_with_len_more, sum_by-map-range_with_len_more}
use Rattle.std.specs.List.{fold, range_with_len}

pub greatest-more : (f : ℕ → ℕ) (n : ℕ)
    → fold max 0 (map f (range_with_len 0 (n + 1))) ≡ max (fold max 0 (map f (range_with_len 0 n))) (f n)
greatest-more f n =
    ap (fold max 0) (map-range_with_len_more f 0 n n (omega arith)) ∙ fold_push max 0 (map f (range_with_len 0 n)) (f n)

pub sum-more : (f : ℕ → ℕ) (n : ℕ)
    → sum (map f (range_with_len 0 (n + 1))) ≡ sum (map f (range_with_len 0 n)) + f n
sum-more f n = sum_by-map-range_with_len_more (λ (x : ℕ). x) f 0 n n (omega arith)

pub greatest-taken : {X : Type 0} (g : X → ℕ) (f : ℕ → ℕ) (xs : List X) (i : ℕ) (d : X) → i < length xs
    → fold max 0 (map f (map g (take (i + 1) xs))) ≡ max (fold max 0 (map f (map g (take i xs)))) (f (g (get_or xs i d)))
greatest-taken g f xs i d below =
    ap (λ l. fold max 0 (map f (map g l))) (take_more xs i d below)
    ∙ ap (λ l. fold max 0 (map f l)) (map-append g (take i xs) (get_or xs i d ∷ []))
    ∙ ap (fold max 0) (map-append f (map g (take i xs)) (g (get_or xs i d) ∷ []))
    ∙ fold_push max 0 (map f (map g (take i xs))) (f (g (get_or xs i d)))
