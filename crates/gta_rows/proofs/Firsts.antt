-- The first of the numbered items of a list, as the list grows at its end.
use Rattle.std.proofs.Common.{◌≡◌, ℕ, zero, suc, ◌+◌, ◌<◌, Bool, true, false, if◌then◌else◌, List}
use Rattle.std.proofs.Common.{[], ◌∷◌, ◌++◌, length, take, get_or, Option, Some, None, option_map}
use Rattle.std.proofs.Common.{add-one, refl, ap, ◌∙◌, arith}
use Rattle.std.specs.List.{find, filter_map, cons_option, enumerate_from, slice_get}
use Rattle.std.specs.Option.{option_or}

shifted : (n m : ℕ) → n + 1 + m ≡ n + suc m
shifted n m = omega arith

-- what f makes of the first item for which it makes something
pub head_append : {A B : Type 0} (f : ℕ × A → Option B) (n : ℕ) (xs : List A) (x : A)
    → slice_get (filter_map f (enumerate_from n (xs ++ x ∷ []))) 0
    ≡ option_or (slice_get (filter_map f (enumerate_from n xs)) 0) (f (n + length xs, x))
head_append {A} {B} f n [] x = by (f (n, x)) ∙ ap (λ (k : ℕ). f (k, x)) same
  where
    same : n ≡ n + 0
    same = omega arith

    by : (o : Option B) → slice_get (cons_option o []) 0 ≡ o
    by None = refl
    by (Some b) = refl
head_append {A} {B} f n (y ∷ ys) x = by (f (n, y))
    (head_append f (n + 1) ys x
    ∙ ap (λ (k : ℕ). option_or (slice_get (filter_map f (enumerate_from (n + 1) ys)) 0) (f (k, x)))
    (shifted n (length ys)))
  where
    by : (o : Option B)
        → slice_get (filter_map f (enumerate_from (n + 1) (ys ++ x ∷ []))) 0
        ≡ option_or (slice_get (filter_map f (enumerate_from (n + 1) ys)) 0) (f (n + suc (length ys), x))
        → slice_get (cons_option o (filter_map f (enumerate_from (n + 1) (ys ++ x ∷ [])))) 0
        ≡ option_or (slice_get (cons_option o (filter_map f (enumerate_from (n + 1) ys))) 0)
        (f (n + suc (length ys), x))
    by None e = e
    by (Some b) e = refl

-- what f makes of the first item that passes
abbrev pub first_at : {A F : Type 0} → (ℕ × A → Bool) → (ℕ × A → F) → ℕ → List A → Option F
first_at test f n xs = option_map f (find test (enumerate_from n xs))

pub at_more : {A F : Type 0} (test : ℕ × A → Bool) (f : ℕ × A → F) (n : ℕ) (xs : List A) (x : A)
    → first_at test f n xs ≡ None → test (n + length xs, x) ≡ false → first_at test f n (xs ++ x ∷ []) ≡ None
at_more {A} {F} test f n [] x so_far miss = by (test (n, x)) (ap (λ (k : ℕ). test (k, x)) same ∙ miss)
  where
    same : n ≡ n + 0
    same = omega arith

    by : (b : Bool) → b ≡ false → option_map f (if b then Some (n, x) else None) ≡ None
    by true e = cc e
    by false e = refl
at_more {A} {F} test f n (y ∷ ys) x so_far miss = by (test (n, y)) so_far
    (λ before. at_more test f (n + 1) ys x before (ap (λ (k : ℕ). test (k, x)) (shifted n (length ys)) ∙ miss))
  where
    by : (b : Bool) → option_map f (if b then Some (n, y) else find test (enumerate_from (n + 1) ys)) ≡ None
        → (first_at test f (n + 1) ys ≡ None → first_at test f (n + 1) (ys ++ x ∷ []) ≡ None)
        → option_map f (if b then Some (n, y) else find test (enumerate_from (n + 1) (ys ++ x ∷ []))) ≡ None
    by true e more = cc e
    by false e more = more e

pub at_here : {A F : Type 0} (test : ℕ × A → Bool) (f : ℕ × A → F) (n : ℕ) (xs : List A) (x : A) (zs : List A)
    → first_at test f n xs ≡ None → test (n + length xs, x) ≡ true
    → first_at test f n (xs ++ x ∷ zs) ≡ Some (f (n + length xs, x))
at_here {A} {F} test f n [] x zs so_far hit =
    by (test (n, x)) (ap (λ (k : ℕ). test (k, x)) same ∙ hit) ∙ ap (λ (k : ℕ). Some (f (k, x))) same
  where
    same : n ≡ n + 0
    same = omega arith

    by : (b : Bool) → b ≡ true
        → option_map f (if b then Some (n, x) else find test (enumerate_from (n + 1) zs)) ≡ Some (f (n, x))
    by true e = refl
    by false e = cc e
at_here {A} {F} test f n (y ∷ ys) x zs so_far hit = by (test (n, y)) so_far
    (λ before. at_here test f (n + 1) ys x zs before (ap (λ (k : ℕ). test (k, x)) (shifted n (length ys)) ∙ hit)
    ∙ ap (λ (k : ℕ). Some (f (k, x))) (shifted n (length ys)))
  where
    by : (b : Bool) → option_map f (if b then Some (n, y) else find test (enumerate_from (n + 1) ys)) ≡ None
        → (first_at test f (n + 1) ys ≡ None
        → first_at test f (n + 1) (ys ++ x ∷ zs) ≡ Some (f (n + suc (length ys), x)))
        → option_map f (if b then Some (n, y) else find test (enumerate_from (n + 1) (ys ++ x ∷ zs))) ≡ Some
        (f (n + suc (length ys), x))
    by true e more = cc e
    by false e more = more e

-- one item more, for which f makes something
made_more : {A B : Type 0} (f : A → Option B) (xs : List A) (i : ℕ) (d : A) (b : B) → i < length xs
    → f (get_or xs i d) ≡ Some b
    → filter_map f (take (suc i) xs) ≡ filter_map f (take i xs) ++ b ∷ []
made_more f [] i d b lt made = absurd (omega arith)
made_more f (x ∷ xs) zero d b lt made = rw made refl
made_more {A} {B} f (x ∷ xs) (suc i) d b lt made = by (f x) (made_more f xs i d b (omega arith) made)
  where
    by : (o : Option B) → filter_map f (take (suc i) xs) ≡ filter_map f (take i xs) ++ b ∷ []
        → cons_option o (filter_map f (take (suc i) xs)) ≡ cons_option o (filter_map f (take i xs)) ++ b ∷ []
    by None e = e
    by (Some y) e = ap (λ (ys : List B). y ∷ ys) e

pub one_made : {A B : Type 0} (f : A → Option B) (xs : List A) (i : ℕ) (d : A) (b : B) → i < length xs
    → f (get_or xs i d) ≡ Some b
    → filter_map f (take (i + 1) xs) ≡ filter_map f (take i xs) ++ b ∷ []
one_made f xs i d b lt made = rw (add-one i) (made_more f xs i d b lt made)
