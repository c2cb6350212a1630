-- The first item of a list that passes a test, found from the front.
use Rattle.std.proofs.Common.{◌≡◌, ℕ, zero, suc, ◌+◌, ◌<◌, Bool, true, false, not, List, [], ◌∷◌}
use Rattle.std.proofs.Common.{length, take, get_or, Some, None, option_map, add-one, refl, sym}
use Rattle.std.proofs.Common.{subst, if◌then◌else◌, ◌∙◌, arith}
use Rattle.std.specs.List.{find, position_or_len, count_by}
use Rattle.std.proofs.lemmas.List.Sums.{count_by_more_yes, count_by_more_no}
use Rattle.std.proofs.lemmas.Option.{slice_get-get_or}
use Rattle.gta_rows.specs.Places.{is_at}

pub at_get : {A : Type 0} (test : A → Bool) (xs : List A) (i : ℕ) (d : A) → i < length xs
    → is_at test xs i ≡ test (get_or xs i d)
at_get test xs i d lt = rw (slice_get-get_or xs i d lt) refl

pub count_hit : {A : Type 0} (test : A → Bool) (xs : List A) (i : ℕ) (d : A) → i < length xs → is_at test xs i ≡ true
    → count_by test (take (i + 1) xs) ≡ count_by test (take i xs) + 1
count_hit test xs i d lt hit = count_by_more_yes test xs i d lt (sym (at_get test xs i d lt) ∙ hit)

pub count_miss : {A : Type 0} (test : A → Bool) (xs : List A) (i : ℕ) (d : A) → i < length xs
    → is_at test xs i ≡ false
    → count_by test (take (i + 1) xs) ≡ count_by test (take i xs)
count_miss test xs i d lt miss = count_by_more_no test xs i d lt (sym (at_get test xs i d lt) ∙ miss)

place_miss : {A : Type 0} (test : A → Bool) (xs : List A) (i : ℕ) → i < length xs
    → position_or_len test (take i xs) ≡ i → is_at test xs i ≡ false → position_or_len test (take (suc i) xs) ≡ suc i
place_miss test [] i lt so_far miss = absurd (omega arith)
place_miss test (x ∷ xs) zero lt so_far miss = rw miss refl
place_miss test (x ∷ xs) (suc i) lt so_far miss = by (test x) so_far (place_miss test xs i (omega arith))
  where
    by : (b : Bool) → (if not b then 1 + position_or_len test (take i xs) else 0) ≡ suc i
        → (position_or_len test (take i xs) ≡ i → is_at test xs i ≡ false
        → position_or_len test (take (suc i) xs) ≡ suc i)
        → (if not b then 1 + position_or_len test (take (suc i) xs) else 0) ≡ suc (suc i)
    by true e more = absurd (omega (arith, e))
    by false e more = omega (arith, more (omega (arith, e)) miss)

pub place_more : {A : Type 0} (test : A → Bool) (xs : List A) (i : ℕ) → i < length xs
    → position_or_len test (take i xs) ≡ i → is_at test xs i ≡ false → position_or_len test (take (i + 1) xs) ≡ i + 1
place_more test xs i lt so_far miss = rw (add-one i) (place_miss test xs i lt so_far miss)

pub place_here : {A : Type 0} (test : A → Bool) (xs : List A) (i : ℕ)
    → position_or_len test (take i xs) ≡ i → is_at test xs i ≡ true → position_or_len test xs ≡ i
place_here test [] i so_far hit = cc hit
place_here test (x ∷ xs) zero so_far hit = rw hit refl
place_here test (x ∷ xs) (suc i) so_far hit = by (test x) so_far (place_here test xs i)
  where
    by : (b : Bool) → (if not b then 1 + position_or_len test (take i xs) else 0) ≡ suc i
        → (position_or_len test (take i xs) ≡ i → is_at test xs i ≡ true → position_or_len test xs ≡ i)
        → (if not b then 1 + position_or_len test xs else 0) ≡ suc i
    by true e more = absurd (omega (arith, e))
    by false e more = omega (arith, more (omega (arith, e)) hit)

-- what f makes of the first item that passes
first_miss : {A F : Type 0} (test : A → Bool) (f : A → F) (xs : List A) (i : ℕ) (x : A) → i < length xs
    → x ≡ get_or xs i x
    → option_map f (find test (take i xs)) ≡ None → test x ≡ false → option_map f (find test (take (suc i) xs)) ≡ None
first_miss test f [] i x lt is so_far miss = absurd (omega arith)
first_miss test f (y ∷ ys) zero x lt is so_far miss = rw (rw is at miss) refl
first_miss test f (y ∷ ys) (suc i) x lt is so_far miss = by (test y) so_far
    (first_miss test f ys i x (omega arith) is)
  where
    by : (b : Bool) → option_map f (if b then Some y else find test (take i ys)) ≡ None
        → (option_map f (find test (take i ys)) ≡ None → test x ≡ false
        → option_map f (find test (take (suc i) ys)) ≡ None)
        → option_map f (if b then Some y else find test (take (suc i) ys)) ≡ None
    by true e more = cc e
    by false e more = more e miss

pub first_more : {A F : Type 0} (test : A → Bool) (f : A → F) (xs : List A) (i : ℕ) (x : A) → i < length xs
    → x ≡ get_or xs i x
    → option_map f (find test (take i xs)) ≡ None → test x ≡ false → option_map f (find test (take (i + 1) xs)) ≡ None
first_more test f xs i x lt is so_far miss = rw (add-one i) (first_miss test f xs i x lt is so_far miss)

pub first_here : {A F : Type 0} (test : A → Bool) (f : A → F) (xs : List A) (i : ℕ) (x : A) → i < length xs
    → x ≡ get_or xs i x
    → option_map f (find test (take i xs)) ≡ None → test x ≡ true → option_map f (find test xs) ≡ Some (f x)
first_here {A} test f [] i x lt is so_far hit = absurd (omega arith)
first_here {A} test f (y ∷ ys) zero x lt is so_far hit =
    subst (λ (z : A). option_map f (if test z then Some z else find test ys) ≡ Some (f x)) is
    (rw hit refl)
first_here {A} test f (y ∷ ys) (suc i) x lt is so_far hit = by (test y) so_far
    (first_here test f ys i x (omega arith) is)
  where
    by : (b : Bool) → option_map f (if b then Some y else find test (take i ys)) ≡ None
        → (option_map f (find test (take i ys)) ≡ None → test x ≡ true → option_map f (find test ys) ≡ Some (f x))
        → option_map f (if b then Some y else find test ys) ≡ Some (f x)
    by true e more = cc e
    by false e more = more e hit
