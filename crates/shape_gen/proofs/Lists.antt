-- Lists of any items, ranges of numbers, and all concatenations of two lists of lists.
use Rattle.std.proofs.Common.{◌≡◌, refl, sym, ap, ◌∙◌, ℕ, zero, suc, ◌+◌, ◌<◌, ◌≤◌, List, [], ◌∷◌, ◌++◌, map, arith}
use Rattle.std.proofs.Common.{append_assoc}
use Rattle.std.proofs.lemmas.List.{append-nil, map-append}
use Rattle.std.specs.List.{range_with_len, flat_map}

-- every list of the first with every list of the second behind it, in the order of the first
abbrev pub concats : {X : Type 0} → List (List X) → List (List X) → List (List X)
concats cs ds = flat_map (λ c. map (λ d. c ++ d) ds) cs

pub map-map : {A B C : Type 0} (f : B → C) (g : A → B) (xs : List A) → map f (map g xs) ≡ map (λ x. f (g x)) xs
map-map f g [] = refl
map-map f g (x ∷ xs) = ap (λ l. f (g x) ∷ l) (map-map f g xs)

pub map-same : {A B : Type 0} (f g : A → B) (xs : List A) → ((x : A) → f x ≡ g x) → map f xs ≡ map g xs
map-same f g [] same = refl
map-same f g (x ∷ xs) same = ap (λ y. y ∷ map f xs) (same x) ∙ ap (λ l. g x ∷ l) (map-same f g xs same)

pub flat_map-append : {A B : Type 0} (f : A → List B) (xs ys : List A)
    → flat_map f (xs ++ ys) ≡ flat_map f xs ++ flat_map f ys
flat_map-append f [] ys = refl
flat_map-append f (x ∷ xs) ys =
    ap (λ l. f x ++ l) (flat_map-append f xs ys) ∙ sym (append_assoc (f x) (flat_map f xs) (flat_map f ys))

pub flat_map-flat_map : {A B C : Type 0} (f : B → List C) (g : A → List B) (xs : List A)
    → flat_map f (flat_map g xs) ≡ flat_map (λ x. flat_map f (g x)) xs
flat_map-flat_map f g [] = refl
flat_map-flat_map f g (x ∷ xs) =
    flat_map-append f (g x) (flat_map g xs) ∙ ap (λ l. flat_map f (g x) ++ l) (flat_map-flat_map f g xs)

pub flat_map-same : {A B : Type 0} (f g : A → List B) (xs : List A) → ((x : A) → f x ≡ g x)
    → flat_map f xs ≡ flat_map g xs
flat_map-same f g [] same = refl
flat_map-same f g (x ∷ xs) same =
    ap (λ l. l ++ flat_map f xs) (same x) ∙ ap (λ l. g x ++ l) (flat_map-same f g xs same)

-- ranges of numbers

pub range-append : (low n k : ℕ) → range_with_len low (n + k) ≡ range_with_len low n ++ range_with_len (low + n) k
range-append low zero k =
    let count : zero + k ≡ k = omega arith in
    let place : low ≡ low + zero = omega arith in
    ap (range_with_len low) count ∙ ap (λ a. range_with_len a k) place
range-append low (suc n) k =
    let count : suc n + k ≡ suc (n + k) = omega arith in
    let place : (low + 1) + n ≡ low + suc n = omega arith in
    ap (range_with_len low) count
    ∙ ap (λ l. low ∷ l) (range-append (low + 1) n k ∙ ap (λ a. range_with_len (low + 1) n ++ range_with_len a k) place)

pub range-shift : (more low n : ℕ) → range_with_len (more + low) n ≡ map (λ i. more + i) (range_with_len low n)
range-shift more low zero = refl
range-shift more low (suc n) =
    let place : (more + low) + 1 ≡ more + (low + 1) = omega arith in
    ap (λ l. (more + low) ∷ l) (ap (λ a. range_with_len a n) place ∙ range-shift more (low + 1) n)

-- two functions that agree in a range
pub map-range : {B : Type 0} (f g : ℕ → B) (low n : ℕ) → ((i : ℕ) → low ≤ i → i < low + n → f i ≡ g i)
    → map f (range_with_len low n) ≡ map g (range_with_len low n)
map-range f g low zero same = refl
map-range f g low (suc n) same =
    ap (λ y. y ∷ map f (range_with_len (low + 1) n)) (same low (omega arith) (omega arith))
    ∙ ap (λ l. g low ∷ l) (map-range f g (low + 1) n (λ i from below. same i (omega arith) (omega arith)))

-- concatenations

pub concats-append : {X : Type 0} (bs cs ds : List (List X)) → concats (bs ++ cs) ds ≡ concats bs ds ++ concats cs ds
concats-append bs cs ds = flat_map-append (λ c. map (λ d. c ++ d) ds) bs cs

pub concats-cons : {X : Type 0} (x : X) (cs ds : List (List X))
    → concats (map (λ c. x ∷ c) cs) ds ≡ map (λ c. x ∷ c) (concats cs ds)
concats-cons x [] ds = refl
concats-cons x (c ∷ cs) ds =
    ap (λ l. l ++ concats (map (λ c. x ∷ c) cs) ds) (sym (map-map (λ c. x ∷ c) (λ d. c ++ d) ds))
    ∙ ap (λ l. map (λ c. x ∷ c) (map (λ d. c ++ d) ds) ++ l) (concats-cons x cs ds)
    ∙ sym (map-append (λ c. x ∷ c) (map (λ d. c ++ d) ds) (concats cs ds))

map-empty : {X : Type 0} (ds : List (List X)) → map (λ d. [] ++ d) ds ≡ ds
map-empty [] = refl
map-empty (d ∷ ds) = ap (λ l. d ∷ l) (map-empty ds)

pub concats-single : {X : Type 0} (c : List X) (ds : List (List X)) → concats (c ∷ []) ds ≡ map (λ d. c ++ d) ds
concats-single c ds = append-nil (map (λ d. c ++ d) ds)

pub concats-empty : {X : Type 0} (ds : List (List X)) → concats ([] ∷ []) ds ≡ ds
concats-empty ds = concats-single [] ds ∙ map-empty ds

pub concats-one : {X : Type 0} (cs : List (List X)) (d : List X) → concats cs (d ∷ []) ≡ map (λ c. c ++ d) cs
concats-one [] d = refl
concats-one (c ∷ cs) d = ap (λ l. (c ++ d) ∷ l) (concats-one cs d)
