-- Lists made of pieces of one length: how many items there are, and where they stand.
use Rattle.std.proofs.Common.{◌≡◌, ℕ, zero, suc, ◌+◌, ◌*◌, ◌<◌, List, [], ◌∷◌, ◌++◌, map, length, get_or}
use Rattle.std.proofs.Common.{append_assoc, refl, sym, ap, ◌∙◌, arith}
use Rattle.std.specs.List.{flat_map, range_with_len}
use Rattle.std.proofs.lemmas.List.{length-append, get_or_append_left, get_or-append-add, append-nil}
use Rattle.std.proofs.lemmas.List.Concat.{flat_map-append}
use Rattle.std.proofs.lemmas.List.FromFn.{map-range_with_len_more}

-- pieces of one length
module _ {A : Type 0} (f : ℕ → List A) (width : ℕ) (wide : (x : ℕ) → length (f x) ≡ width) where
  pub length-pieces : (xs : List ℕ) → length (flat_map f xs) ≡ length xs * width
  length-pieces [] = omega arith
  length-pieces (x ∷ xs) =
      let here = wide x in let rest = length-pieces xs in
      length-append (f x) (flat_map f xs) ∙ omega (arith, here, rest)

  pub get_or-pieces : (xs : List ℕ) (i j : ℕ) (d : A) → i < length xs → j < width
      → get_or (flat_map f xs) (i * width + j) d ≡ get_or (f (get_or xs i 0)) j d
  get_or-pieces [] i j d i_in j_in = absurd (omega arith)
  get_or-pieces (x ∷ xs) zero j d i_in j_in =
      let here = wide x in
      ap (λ n. get_or (f x ++ flat_map f xs) n d) (omega arith)
      ∙ get_or_append_left (f x) (flat_map f xs) d j (omega arith)
  get_or-pieces (x ∷ xs) (suc i) j d i_in j_in =
      let here = wide x in
      let place : suc i * width + j ≡ length (f x) + (i * width + j) = omega (arith, here) in
      ap (λ n. get_or (f x ++ flat_map f xs) n d) place
      ∙ get_or-append-add (f x) (flat_map f xs) (i * width + j) d
      ∙ get_or-pieces xs i j d (omega arith) j_in

-- one item more, and one piece more
pub items-more : {A : Type 0} (f : ℕ → A) (front so_far after : List A) (n : ℕ) (x : A)
    → so_far ≡ front ++ map f (range_with_len 0 n) → after ≡ so_far ++ x ∷ [] → x ≡ f n
    → after ≡ front ++ map f (range_with_len 0 (n + 1))
items-more f front so_far after n x is_so_far is_after is_next =
    is_after ∙ ap (λ l. l ++ x ∷ []) is_so_far ∙ append_assoc front (map f (range_with_len 0 n)) (x ∷ [])
    ∙ ap (λ y. front ++ (map f (range_with_len 0 n) ++ y ∷ [])) is_next
    ∙ ap (λ l. front ++ l) (sym (map-range_with_len_more f 0 n n (omega arith)))

map-same : (xs : List ℕ) → map (λ (x : ℕ). x) xs ≡ xs
map-same [] = refl
map-same (x ∷ xs) = ap (λ l. x ∷ l) (map-same xs)

range-more : (a n : ℕ) → range_with_len a (n + 1) ≡ range_with_len a n ++ (a + n) ∷ []
range-more a n =
    sym (map-same (range_with_len a (n + 1))) ∙ map-range_with_len_more (λ (x : ℕ). x) a n (a + n) refl
    ∙ ap (λ l. l ++ (a + n) ∷ []) (map-same (range_with_len a n))

pub pieces-more : {A : Type 0} (f : ℕ → List A) (before after : List A) (n : ℕ)
    → before ≡ flat_map f (range_with_len 0 n) → after ≡ before ++ f n → after ≡ flat_map f (range_with_len 0 (n + 1))
pieces-more f before after n is_before is_after =
    is_after ∙ ap (λ l. l ++ f n) is_before
    ∙ ap (λ l. flat_map f (range_with_len 0 n) ++ l) (ap f (omega arith) ∙ sym (append-nil (f (0 + n))))
    ∙ sym (flat_map-append f (range_with_len 0 n) ((0 + n) ∷ []))
    ∙ ap (flat_map f) (sym (range-more 0 n))
