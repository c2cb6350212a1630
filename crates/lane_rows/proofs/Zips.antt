-- Lemmas on lists that are joined place by place.
use Rattle.std.proofs.Common.{◌≡◌, ℕ, zero, suc, ◌+◌, ◌<◌, ◌≤◌, List, [], ◌∷◌, ◌++◌, length, get_or, set, take, drop}
use Rattle.std.proofs.Common.{map, All, refl, sym, ap, ◌∙◌, add-one, arith}
use Rattle.std.specs.Simd.Lanes.{zip2}
use Rattle.std.proofs.lemmas.List.Elements.{All-head, All-tail}

-- a loop that puts the joined items in place of the left ones
module _ {X Y : Type 0} (f : X → Y → X) where
  set-zip2 : (i : ℕ) (xs : List X) (ys : List Y) (d : X) (e : Y) → i < length xs → i < length ys
      → set (zip2 f (take i xs) (take i ys) ++ drop i xs) i (f (get_or xs i d) (get_or ys i e))
      ≡ zip2 f (take (suc i) xs) (take (suc i) ys) ++ drop (suc i) xs
  set-zip2 i [] ys d e left right = absurd (omega arith)
  set-zip2 i (x ∷ xs) [] d e left right = absurd (omega arith)
  set-zip2 zero (x ∷ xs) (y ∷ ys) d e left right = refl
  set-zip2 (suc i) (x ∷ xs) (y ∷ ys) d e left right =
      ap (λ zs. f x y ∷ zs) (set-zip2 i xs ys d e (omega arith) (omega arith))

  get_or-zip2_front : (i : ℕ) (xs : List X) (ys : List Y) (d : X) → i < length xs → i < length ys
      → get_or (zip2 f (take i xs) (take i ys) ++ drop i xs) i d ≡ get_or xs i d
  get_or-zip2_front i [] ys d left right = absurd (omega arith)
  get_or-zip2_front i (x ∷ xs) [] d left right = absurd (omega arith)
  get_or-zip2_front zero (x ∷ xs) (y ∷ ys) d left right = refl
  get_or-zip2_front (suc i) (x ∷ xs) (y ∷ ys) d left right = get_or-zip2_front i xs ys d (omega arith) (omega arith)

  -- at the loop's place there is still the left item
  pub zip2-here : (i : ℕ) (xs now : List X) (ys : List Y) (d : X) → length xs ≡ length ys → i < length xs
      → now ≡ zip2 f (take i xs) (take i ys) ++ drop i xs → get_or now i d ≡ get_or xs i d
  zip2-here i xs now ys d long within so_far =
      ap (λ zs. get_or zs i d) so_far ∙ get_or-zip2_front i xs ys d within (omega arith)

  pub zip2-more : (i : ℕ) (xs now : List X) (ys : List Y) (d : X) (e : Y) (new : X) → length xs ≡ length ys
      → i < length xs
      → now ≡ zip2 f (take i xs) (take i ys) ++ drop i xs → new ≡ f (get_or now i d) (get_or ys i e)
      → set now i new ≡ zip2 f (take (i + 1) xs) (take (i + 1) ys) ++ drop (i + 1) xs
  zip2-more i xs now ys d e new long within so_far is =
      let in_ys : i < length ys = omega arith in
      let here : get_or now i d ≡ get_or xs i d = zip2-here i xs now ys d long within so_far in
      ap (set now i) (is ∙ ap (λ x. f x (get_or ys i e)) here)
      ∙ ap (λ zs. set zs i (f (get_or xs i d) (get_or ys i e))) so_far
      ∙ set-zip2 i xs ys d e within in_ys
      ∙ ap (λ j. zip2 f (take j xs) (take j ys) ++ drop j xs) (sym (add-one i))

  zip2-whole : (i : ℕ) (xs : List X) (ys : List Y) → length xs ≡ length ys → length xs ≤ i
      → zip2 f (take i xs) (take i ys) ++ drop i xs ≡ zip2 f xs ys
  zip2-whole zero [] ys long past = refl
  zip2-whole (suc i) [] ys long past = refl
  zip2-whole i (x ∷ xs) [] long past = absurd (omega arith)
  zip2-whole zero (x ∷ xs) (y ∷ ys) long past = absurd (omega arith)
  zip2-whole (suc i) (x ∷ xs) (y ∷ ys) long past =
      ap (λ zs. f x y ∷ zs) (zip2-whole i xs ys (omega arith) (omega arith))

  pub zip2-all : (i : ℕ) (xs now : List X) (ys : List Y) → length xs ≡ length ys → length xs ≤ i
      → now ≡ zip2 f (take i xs) (take i ys) ++ drop i xs → now ≡ zip2 f xs ys
  zip2-all i xs now ys long past so_far = so_far ∙ zip2-whole i xs ys long past

-- what is shown of joined items is joined from what is shown of them
pub map-zip2 : {X Y E F : Type 0} (f : X → Y → X) (g : E → F → E) (p : X → E) (q : Y → F) (P : Y → Type 0)
    → ((x : X) (y : Y) → P y → p (f x y) ≡ g (p x) (q y)) → (xs : List X) (ys : List Y) → All P ys
    → map p (zip2 f xs ys) ≡ zip2 g (map p xs) (map q ys)
map-zip2 f g p q P same [] ys each = refl
map-zip2 f g p q P same (x ∷ xs) [] each = refl
map-zip2 f g p q P same (x ∷ xs) (y ∷ ys) each =
    ap (λ e. e ∷ map p (zip2 f xs ys)) (same x y (All-head P y ys each))
    ∙ ap (λ es. g (p x) (q y) ∷ es) (map-zip2 f g p q P same xs ys (All-tail P y ys each))

-- where the right items change nothing
pub zip2-left : {X Y : Type 0} (f : X → Y → X) (xs : List X) (ys : List Y) → ((x : X) (y : Y) → f x y ≡ x)
    → length xs ≡ length ys
    → zip2 f xs ys ≡ xs
zip2-left f [] ys same long = refl
zip2-left f (x ∷ xs) [] same long = absurd (omega arith)
zip2-left f (x ∷ xs) (y ∷ ys) same long =
    ap (λ z. z ∷ zip2 f xs ys) (same x y) ∙ ap (λ zs. x ∷ zs) (zip2-left f xs ys same (omega arith))
