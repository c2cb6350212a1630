-- Lemmas on the functions that are found, in their order.
use Rattle.std.proofs.Common.{◌≡◌, ℕ, zero, suc, ◌+◌, ◌<◌, ◌≤◌, List, [], ◌∷◌, ◌++◌, length, get_or, map, inl}
use Rattle.std.proofs.Common.{inr, refl, sym, ap, subst, ◌∙◌, All, add-one, append_assoc, take, arith}
use Rattle.std.specs.List.{fold, range_with_len, IsDistinct}
use Rattle.std.proofs.lemmas.Bool.{cases_lt}
use Rattle.std.proofs.lemmas.List.{length-map, map-append, map_more, get_or_default}
use Rattle.std.proofs.lemmas.List.Elements.{All-map, All-push}
use Rattle.std.proofs.lemmas.List.FromFn.{get_or-range_with_len, length-range_with_len}
use Rattle.std.proofs.lemmas.List.FromFn.{get_or-map-range_with_len, length-map-range_with_len}
use Rattle.std.proofs.lemmas.List.Sums.{fold-append}
use Rattle.auto_monoid.specs.Auto.{PlainAuto, IsAuto, IsWord}
use Rattle.auto_monoid.specs.Functions.{IsFunction, identity, function_of, followed_by, same, number_of}
use Rattle.auto_monoid.specs.Functions.{IsReached, AreMany}
use Rattle.auto_monoid.specs.Numbering.{extensions, with_new, discovered, IsNumbering}
use Rattle.auto_monoid.proofs.Places.{IsThere, number_of-at, fold_new-keeps, fold_new-has, fold_new-longer}
use Rattle.auto_monoid.proofs.Places.{fold_new-at, fold_new-All, fold_new-IsDistinct}
use Rattle.auto_monoid.proofs.Words.{range-push, function_of-nil, function_of-push, function_of-IsFunction}

-- each of the first n functions, followed by a letter, is in the list
abbrev pub IsClosedTo : PlainAuto → ℕ → List (List ℕ) → Type 0
IsClosedTo a n functions =
    (e letter : ℕ) → e < n → letter < a.letters → IsThere functions (followed_by a (get_or functions e []) letter)

module _ (a : PlainAuto) where
  identity-IsReached : IsReached a (identity a)
  identity-IsReached = ([], (λ k d below. absurd (omega arith)), function_of-nil a)

  followed_by-IsReached : (f : List ℕ) (letter : ℕ) → letter < a.letters → IsReached a f
      → IsReached a (followed_by a f letter)
  followed_by-IsReached f letter letter_in reached = (
    reached.0 ++ letter ∷ [],
    All-push (λ l. l < a.letters) reached.0 letter reached.1 letter_in,
    sym (function_of-push a reached.0 letter) ∙ ap (λ g. followed_by a g letter) reached.2,
  )

  extensions-IsReached : (f : List ℕ) → IsReached a f → All (IsReached a) (extensions a f)
  extensions-IsReached f reached =
      All-map (IsReached a) (followed_by a f) (range_with_len 0 a.letters)
      (λ k d below.
      followed_by-IsReached f (get_or (range_with_len 0 a.letters) k d)
      (let inside : k < a.letters = subst (λ n. k < n) (length-range_with_len 0 a.letters) below in
      let is = get_or-range_with_len 0 a.letters k d inside in
      omega arith)
      reached)

  element-IsReached : (fs : List (List ℕ)) (n : ℕ) → All (IsReached a) fs → IsReached a (get_or fs n (identity a))
  element-IsReached [] n all = identity-IsReached
  element-IsReached (f ∷ fs) zero all = all 0 [] (omega arith)
  element-IsReached (f ∷ fs) (suc n) all = element-IsReached fs n (λ k d below. all (suc k) d (omega arith))

  pub discovered-IsReached : (n : ℕ) → All (IsReached a) (discovered a n)
  discovered-IsReached zero =
      All-push (IsReached a) [] (identity a) (λ k d below. absurd (omega arith)) identity-IsReached
  discovered-IsReached (suc n) =
      let so_far = discovered-IsReached n in
      let f = get_or (discovered a n) n (identity a) in
      fold_new-All (IsReached a) (extensions a f) (discovered a n) so_far
      (extensions-IsReached f (element-IsReached (discovered a n) n so_far))

  pub discovered-IsDistinct : (n : ℕ) → IsDistinct same (discovered a n)
  unfolding IsDistinct
  discovered-IsDistinct zero = (tt, tt)
  discovered-IsDistinct (suc n) =
      fold_new-IsDistinct (extensions a (get_or (discovered a n) n (identity a))) (discovered a n)
      (discovered-IsDistinct n)

  pub discovered-some : (n : ℕ) → 0 < length (discovered a n)
  discovered-some zero = omega arith
  discovered-some (suc n) =
      (let longer = fold_new-longer (extensions a (get_or (discovered a n) n (identity a))) (discovered a n) in
      let some = discovered-some n in
      omega arith)

  pub discovered-first : (n : ℕ) → get_or (discovered a n) 0 [] ≡ identity a
  discovered-first zero = refl
  discovered-first (suc n) =
      fold_new-at (extensions a (get_or (discovered a n) n (identity a))) (discovered a n) 0 [] (discovered-some n)
      ∙ discovered-first n

  -- one more function has been followed by each letter
  module _ (fs : List (List ℕ)) (n : ℕ) (inside : n < length fs) (closed : IsClosedTo a n fs) where
    abbrev pub more : List (List ℕ)
    more = fold with_new fs (extensions a (get_or fs n []))

    IsThere-more : (e letter : ℕ) → e < length fs → IsThere more (followed_by a (get_or fs e []) letter)
        → IsThere more (followed_by a (get_or more e []) letter)
    IsThere-more e letter below there =
        subst (λ f. IsThere more (followed_by a f letter))
        (sym (fold_new-at (extensions a (get_or fs n [])) fs e [] below)) there

    last_there : (letter : ℕ) → letter < a.letters → IsThere more (followed_by a (get_or fs n []) letter)
    last_there letter letter_in =
        let gs = extensions a (get_or fs n []) in
        subst (IsThere more)
        (get_or-map-range_with_len (followed_by a (get_or fs n [])) 0 a.letters letter letter []
        letter_in (omega arith))
        (fold_new-has gs fs letter
        (subst (λ size. letter < size)
        (sym (length-map-range_with_len (followed_by a (get_or fs n [])) 0 a.letters)) letter_in))

    pub IsClosedTo-more : IsClosedTo a (n + 1) more
    IsClosedTo-more e letter below letter_in = elim (cases_lt e n) [
      | inl earlier ↦
          IsThere-more e letter (omega arith)
          (fold_new-keeps (extensions a (get_or fs n [])) fs (followed_by a (get_or fs e []) letter)
          (closed e letter earlier letter_in))
      | inr last ↦
          (let same : n ≡ e = omega arith in
          IsThere-more e letter (omega arith)
          (subst (λ k. IsThere more (followed_by a (get_or fs k []) letter)) same (last_there letter letter_in)))
    ]

  -- a list of functions that are followed by each letter within the list
  module _ (fs : List (List ℕ)) (closed : IsClosedTo a (length fs) fs) where
    followed_by-IsThere : (f : List ℕ) (letter : ℕ) → letter < a.letters → IsThere fs f
        → IsThere fs (followed_by a f letter)
    followed_by-IsThere f letter letter_in there =
        subst (λ g. IsThere fs (followed_by a g letter)) (number_of-at fs f there)
        (closed (number_of fs f) letter there letter_in)

    pub fold-IsThere : (word f : List ℕ) → IsWord a word → IsThere fs f → IsThere fs (fold (followed_by a) f word)
    fold-IsThere [] f is_word there = there
    fold-IsThere (letter ∷ word) f is_word there =
        fold-IsThere word (followed_by a f letter) (λ k d below. is_word (suc k) d (omega arith))
        (followed_by-IsThere f letter (is_word 0 0 (omega arith)) there)

  words_of : (fs : List (List ℕ)) → All (IsReached a) fs
      → (words : List (List ℕ)) × All (IsWord a) words × (map (function_of a) words ≡ fs)
  words_of [] all = ([], (λ k d below. absurd (omega arith)), refl)
  words_of (f ∷ fs) all =
      let first = all 0 [] (omega arith) in
      let later = words_of fs (λ k d below. all (suc k) d (omega arith)) in (
        first.0 ∷ later.0,
        All-cons first.0 later.0 first.1 later.1,
        ap (λ g. g ∷ map (function_of a) later.0) first.2 ∙ ap (λ gs. f ∷ gs) later.2,
      )
    where
      All-cons : (w : List ℕ) (ws : List (List ℕ)) → IsWord a w → All (IsWord a) ws → All (IsWord a) (w ∷ ws)
      All-cons w ws here rest zero d below = here
      All-cons w ws here rest (suc k) d below = rest k d (omega arith)

  -- more than 64 functions are found
  pub discovered-AreMany : (n : ℕ) → 64 < length (discovered a n) → AreMany a
  discovered-AreMany n many =
      let words = words_of (discovered a n) (discovered-IsReached n) in (
        words.0,
        words.1,
        subst (IsDistinct same) (sym words.2) (discovered-IsDistinct n),
        subst (λ size. 64 < size) (ap length (sym words.2) ∙ length-map words.0 (function_of a)) many,
      )

  -- the functions are extended by what is new among the extensions of the next
  module _ (fs hs : List (List ℕ)) (n : ℕ) (inside : n < length fs) (so_far : fs ≡ discovered a n)
      (extended : hs ≡ fold with_new fs (extensions a (get_or fs n []))) where
    pub discovered-more : hs ≡ discovered a (n + 1)
    discovered-more =
        extended
        ∙ ap (λ f. fold with_new fs (extensions a f)) (get_or_default fs n [] (identity a) inside)
        ∙ ap (λ gs. fold with_new gs (extensions a (get_or gs n (identity a)))) so_far
        ∙ ap (discovered a) (sym (add-one n))

    pub closed-more : IsClosedTo a n fs → IsClosedTo a (n + 1) hs
    closed-more closed = subst (IsClosedTo a (n + 1)) (sym extended) (IsClosedTo-more fs n inside closed)

    pub longer-more : n + 1 ≤ length hs
    longer-more =
        subst (λ gs. n + 1 ≤ length gs) (sym extended)
        (let longer = fold_new-longer (extensions a (get_or fs n [])) fs in omega arith)

  pub IsNumbering-from : (fs : List (List ℕ)) (n : ℕ) → n ≡ length fs → fs ≡ discovered a n → IsClosedTo a n fs
      → IsNumbering a fs
  IsNumbering-from fs n whole so_far closed = record {
    in_order = so_far ∙ ap (discovered a) whole;
    closed = λ e letter below letter_in. closed e letter (subst (λ k. e < k) (sym whole) below) letter_in;
  }

  pub discovered-IsFunction : IsAuto a → (n : ℕ) → All (IsFunction a.states) (discovered a n)
  discovered-IsFunction auto n k d below =
      let reached = discovered-IsReached n k d below in
      subst (IsFunction a.states) reached.2 (function_of-IsFunction a auto reached.0 reached.1)

-- one more item
pub fold_new-more : (g : ℕ → List ℕ) (fs : List (List ℕ)) (n : ℕ)
    → fold with_new fs (map g (range_with_len 0 (n + 1)))
    ≡ with_new (fold with_new fs (map g (range_with_len 0 n))) (g n)
fold_new-more g fs n =
    ap (λ xs. fold with_new fs (map g xs)) (range-push n)
    ∙ ap (fold with_new fs) (map-append g (range_with_len 0 n) (n ∷ []))
    ∙ fold-append with_new fs (map g (range_with_len 0 n)) (g n ∷ [])

-- a list that others were added to
module _ (fs hs gs : List (List ℕ)) (is : hs ≡ fold with_new fs gs) where
  pub grown-longer : length fs ≤ length hs
  grown-longer = subst (λ xs. length fs ≤ length xs) (sym is) (fold_new-longer gs fs)

  pub grown-at : (k : ℕ) (d : List ℕ) → k < length fs → get_or hs k d ≡ get_or fs k d
  grown-at k d below = ap (λ xs. get_or xs k d) is ∙ fold_new-at gs fs k d below

-- one more number
pub map-range-more : {X : Type 0} (g : ℕ → X) (n : ℕ) (xs after : List X) (x : X)
    → xs ≡ map g (range_with_len 0 n) → after ≡ xs ++ x ∷ [] → x ≡ g n → after ≡ map g (range_with_len 0 (n + 1))
map-range-more g n xs after x so_far added is =
    added
    ∙ ap (λ ys. ys ++ x ∷ []) so_far
    ∙ ap (λ y. map g (range_with_len 0 n) ++ y ∷ []) is
    ∙ sym (ap (map g) (range-push n) ∙ map-append g (range_with_len 0 n) (n ∷ []))

-- one more item, after others
pub map-items-more : {X Y : Type 0} (g : X → Y) (items : List X) (i : ℕ) (item : X) (before ys after : List Y) (y : Y)
    → i < length items → item ≡ get_or items i item → ys ≡ before ++ map g (take i items) → after ≡ ys ++ y ∷ []
    → y ≡ g item → after ≡ before ++ map g (take (i + 1) items)
map-items-more g items i item before ys after y inside at so_far added is =
    added
    ∙ ap (λ zs. zs ++ y ∷ []) so_far
    ∙ append_assoc before (map g (take i items)) (y ∷ [])
    ∙ ap (λ zs. before ++ zs)
    (ap (λ z. map g (take i items) ++ z ∷ []) (is ∙ ap g at) ∙ sym (map_more g items i item inside))
