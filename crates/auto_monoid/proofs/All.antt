-- Lemmas on all functions of words: what 64 steps find, and whether that is more than 64.
use Rattle.std.proofs.Common.{◌≡◌, ℕ, zero, suc, ◌+◌, ◌<◌, ◌≤◌, true, false, List, [], ◌∷◌, ◌++◌, length, get_or}
use Rattle.std.proofs.Common.{inl, inr, ◌⊎◌, refl, sym, ap, subst, ◌∙◌, cond, All, add-one, arith}
use Rattle.std.specs.List.{fold, range_with_len}
use Rattle.std.proofs.lemmas.Bool.{cases_lt, lt-ltb, le-ltb, ltb-true, ltb-false}
use Rattle.std.proofs.lemmas.List.{get_or_past}
use Rattle.std.proofs.lemmas.List.Elements.{All-map}
use Rattle.std.proofs.lemmas.List.FromFn.{get_or-range_with_len, length-range_with_len}
use Rattle.auto_monoid.specs.Auto.{PlainAuto, IsAuto}
use Rattle.auto_monoid.specs.Functions.{identity, followed_by, number_of, AreMany, AreFew}
use Rattle.auto_monoid.specs.Numbering.{extensions, with_new, discovered, IsNumbering, all_functions, are_too_many}
use Rattle.auto_monoid.proofs.Places.{IsThere, fold_new-longer}
use Rattle.auto_monoid.proofs.Found.{IsClosedTo, IsNumbering-from, discovered-AreMany, discovered-first}
use Rattle.auto_monoid.proofs.Found.{discovered-some, discovered-more, closed-more, longer-more}
use Rattle.auto_monoid.proofs.Products.{words_few}

-- what is there already isn't added
with_new-same : (fs : List (List ℕ)) (f : List ℕ) → IsThere fs f → with_new fs f ≡ fs
with_new-same fs f there =
    ap (λ new. cond new fs (fs ++ f ∷ [])) (lt-ltb (number_of fs f) (length fs) there)

fold_new-same : (gs fs : List (List ℕ)) → All (IsThere fs) gs → fold with_new fs gs ≡ fs
fold_new-same [] fs there = refl
fold_new-same (g ∷ gs) fs there =
    ap (λ hs. fold with_new hs gs) (with_new-same fs g (there 0 [] (omega arith)))
    ∙ fold_new-same gs fs (λ k d below. there (suc k) d (omega arith))

module _ (a : PlainAuto) where
  -- what is found only grows
  pub discovered-longer : (n m : ℕ) → n ≤ m → length (discovered a n) ≤ length (discovered a m)
  discovered-longer n zero within =
      (let same : n ≡ 0 = omega arith in
      subst (λ k. length (discovered a k) ≤ length (discovered a 0)) (sym same) (omega arith))
  discovered-longer n (suc m) within = elim (cases_lt m n) [
    | inl past ↦
        (let same : suc m ≡ n = omega arith in
        subst (λ k. length (discovered a k) ≤ length (discovered a (suc m))) same (omega arith))
    | inr earlier ↦
        (let so_far = discovered-longer n m earlier in
        let one = fold_new-longer (extensions a (get_or (discovered a m) m (identity a))) (discovered a m) in
        omega arith)
  ]

  -- once all that is found has been followed by each letter, nothing more is found
  module _ (fs : List (List ℕ)) (numbered : IsNumbering a fs) where
    numbered-some : 0 < length fs
    numbered-some =
        subst (λ gs. 0 < length gs) (sym numbered.in_order) (discovered-some a (length fs))

    numbered-first : get_or fs 0 [] ≡ identity a
    numbered-first =
        ap (λ gs. get_or gs 0 []) numbered.in_order ∙ discovered-first a (length fs)

    identity-there : (letter : ℕ) → letter < a.letters → IsThere fs (followed_by a (identity a) letter)
    identity-there letter letter_in =
        subst (λ f. IsThere fs (followed_by a f letter)) numbered-first
        (numbered.closed 0 letter numbered-some letter_in)

    extensions-there : All (IsThere fs) (extensions a (identity a))
    extensions-there =
        All-map (IsThere fs) (followed_by a (identity a)) (range_with_len 0 a.letters)
        (λ k d below.
        identity-there (get_or (range_with_len 0 a.letters) k d)
        (let inside : k < a.letters = subst (λ n. k < n) (length-range_with_len 0 a.letters) below in
        let is = get_or-range_with_len 0 a.letters k d inside in
        omega arith))

    pub discovered-stays : (n : ℕ) → length fs ≤ n → discovered a n ≡ fs
    discovered-stays zero within = absurd (let some = numbered-some in omega arith)
    discovered-stays (suc n) within = elim (cases_lt n (length fs)) [
      | inl last ↦
          (let whole : length fs ≡ suc n = omega arith in
          ap (discovered a) (sym whole) ∙ sym numbered.in_order)
      | inr earlier ↦
          ap (λ gs. fold with_new gs (extensions a (get_or gs n (identity a)))) (discovered-stays n earlier)
          ∙ ap (λ f. fold with_new fs (extensions a f)) (get_or_past fs n (identity a) earlier)
          ∙ fold_new-same (extensions a (identity a)) fs extensions-there
    ]

  -- when n functions have been followed by each letter, that is all, or there is a further function
  abbrev pub Progress : ℕ → Type 0
  Progress n =
      (IsNumbering a (discovered a n) × (length (discovered a n) ≤ n))
      ⊎ (IsClosedTo a n (discovered a n) × (n < length (discovered a n)))

  pub progress : (n : ℕ) → Progress n
  progress zero = inr ((λ e letter below letter_in. absurd (omega arith)), omega arith)
  progress (suc n) = elim (progress n) [
    | inl done ↦ inl (done_still done.0 done.1)
    | inr further ↦ one_more further.0 further.1
  ]
    where
      done_still : IsNumbering a (discovered a n) → length (discovered a n) ≤ n
          → IsNumbering a (discovered a (suc n)) × (length (discovered a (suc n)) ≤ suc n)
      done_still numbered few =
          let stays : discovered a (suc n) ≡ discovered a n =
          discovered-stays (discovered a n) numbered (suc n) (omega arith) in (
            subst (IsNumbering a) (sym stays) numbered,
            (let same = ap length stays in omega arith),
          )

      one_more : IsClosedTo a n (discovered a n) → n < length (discovered a n) → Progress (suc n)
      one_more closed inside =
          let fs = discovered a n in
          let hs = fold with_new fs (extensions a (get_or fs n [])) in
          let is : hs ≡ discovered a (suc n) =
          discovered-more a fs hs n inside refl refl ∙ ap (discovered a) (add-one n) in
          let closed_here : IsClosedTo a (suc n) (discovered a (suc n)) =
          subst (λ k. IsClosedTo a k (discovered a (suc n))) (add-one n)
          (subst (IsClosedTo a (n + 1)) is (closed-more a fs hs n inside refl refl closed)) in
          let longer : suc n ≤ length (discovered a (suc n)) =
          (let grown = longer-more a fs hs n inside refl refl in let same = ap length is in omega arith) in
          elim (cases_lt (suc n) (length (discovered a (suc n)))) [
            | inl more ↦ inr (closed_here, more)
            | inr whole ↦
                (let all : suc n ≡ length (discovered a (suc n)) = omega arith in
                inl (IsNumbering-from a (discovered a (suc n)) (suc n) all refl closed_here, whole))
          ]

  -- the functions are those of the 64th step
  all_functions-at : (n : ℕ) → 64 ≡ n → all_functions a ≡ discovered a n
  unfolding all_functions
  all_functions-at n is = ap (discovered a) is

  too_many-at : (n : ℕ) → 64 ≡ n → 64 < length (discovered a n) → are_too_many a ≡ true
  unfolding are_too_many
  too_many-at n is many =
      lt-ltb 64 (length (all_functions a))
      (let same = ap length (all_functions-at n is) in omega arith)

  few-at : (n : ℕ) → 64 ≡ n → length (discovered a n) ≤ 64 → are_too_many a ≡ false
  unfolding are_too_many
  few-at n is few =
      le-ltb 64 (length (all_functions a))
      (let same = ap length (all_functions-at n is) in omega arith)

  at-too_many : (n : ℕ) → 64 ≡ n → are_too_many a ≡ true → 64 < length (discovered a n)
  unfolding are_too_many
  at-too_many n is many =
      (let more = ltb-true 64 (length (all_functions a)) many in
      let same = ap length (all_functions-at n is) in
      omega arith)

  at-few : (n : ℕ) → 64 ≡ n → are_too_many a ≡ false → length (discovered a n) ≤ 64
  unfolding are_too_many
  at-few n is few =
      (let within = ltb-false 64 (length (all_functions a)) few in
      let same = ap length (all_functions-at n is) in
      omega arith)

  pub too_many_found : (n : ℕ) → n ≤ 64 → 64 < length (discovered a n) → are_too_many a ≡ true
  too_many_found n within many =
      too_many-at 64 refl (let longer = discovered-longer n 64 within in omega arith)

  pub too_many-AreMany : are_too_many a ≡ true → AreMany a
  too_many-AreMany many = discovered-AreMany a 64 (at-too_many 64 refl many)

  pub few-AreFew : IsAuto a → are_too_many a ≡ false → AreFew a
  few-AreFew auto few = by_progress 64 refl (at-few 64 refl few) (progress 64)
    where
      by_progress : (n : ℕ) → 64 ≡ n → length (discovered a n) ≤ 64 → Progress n → AreFew a
      by_progress n is within progress_there = elim progress_there [
        | inl done ↦ words_few a auto (discovered a n) done.0 within
        | inr further ↦ absurd (omega arith)
      ]

  -- where there are no more than 64, all functions are a numbering
  pub few-IsNumbering : are_too_many a ≡ false → IsNumbering a (all_functions a)
  few-IsNumbering few = by_progress 64 refl (at-few 64 refl few) (progress 64)
    where
      by_progress : (n : ℕ) → 64 ≡ n → length (discovered a n) ≤ 64 → Progress n → IsNumbering a (all_functions a)
      by_progress n is within progress_there = elim progress_there [
        | inl done ↦ subst (IsNumbering a) (sym (all_functions-at n is)) done.0
        | inr further ↦ absurd (omega arith)
      ]

  module _ (fs : List (List ℕ)) (numbered : IsNumbering a fs) (few : length fs ≤ 64) where
    pub are_all : fs ≡ all_functions a
    are_all = sym (all_functions-at 64 refl ∙ discovered-stays fs numbered 64 few)

    pub are_not_too_many : are_too_many a ≡ false
    are_not_too_many =
        few-at 64 refl (let same = ap length (discovered-stays fs numbered 64 few) in omega arith)
