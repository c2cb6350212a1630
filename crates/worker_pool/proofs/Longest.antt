-- The longest piece at a bound.
use Rattle.std.proofs.Common.{◌≡◌, ◌≢◌, ℕ, ◌<◌, ◌≤◌, ◌==◌, nat_lt, max, true, false, ◌&&◌, cond, List, [], ◌∷◌, ◌++◌}
use Rattle.std.proofs.Common.{map, fold, length, get_or, set, Option, Some, None, refl, ap, sym, subst, ◌∙◌, arith}
use Rattle.std.proofs.Common.{append-nil, ⊎_elim}
use Rattle.std.specs.List.{list_any, filter}
use Rattle.std.specs.List.Sorted.{IsStrictlyIncreasing}
use Rattle.std.proofs.lemmas.List.{map-append, get_or-set_same, get_or-set_other}
use Rattle.std.proofs.lemmas.List.Sums.{fold-append}
use Rattle.std.proofs.lemmas.List.Folds.{list_any_none}
use Rattle.std.proofs.lemmas.List.Elements.{All-from_get_or, filter-append, Contains-push, Contains-append_left}
use Rattle.std.proofs.lemmas.Bool.Decides.{nat_tests}
use Rattle.interval_kit.specs.declared.piece.Piece.{Piece}
use Rattle.worker_pool.specs.Walk.{fits, longest_end}
use Rattle.worker_pool.specs.Slots.{slot_end, longer, IsLongest, AreLongest, KeepsLongest, AreEmpty}
use Rattle.worker_pool.proofs.Bounds.{both, alike, is_same, unlike, rising, same_or_not, below_or_not}

module _ {W : Type 0} (bounds : List ℕ) where
  longest_more : (pieces : List (Piece W)) (p : Piece W) (lo : ℕ)
      → longest_end bounds (pieces ++ p ∷ []) lo ≡ cond (fits bounds lo p) (max (longest_end bounds pieces lo) p.hi)
      (longest_end bounds pieces lo)
  longest_more pieces p lo =
      ap (λ ps. fold max 0 (map (λ (q : Piece W). q.hi) ps)) (filter-append (fits bounds lo) pieces (p ∷ []))
      ∙ elim (fits bounds lo p) as
      (λ t. fold max 0 (map (λ (q : Piece W). q.hi) (filter (fits bounds lo) pieces ++ cond t (p ∷ []) []))
      ≡ cond t (max (longest_end bounds pieces lo) p.hi) (longest_end bounds pieces lo)) [
        | true ↦
            ap (λ hs. fold max 0 hs) (map-append (λ (q : Piece W). q.hi) (filter (fits bounds lo) pieces) (p ∷ []))
            ∙ fold-append max 0 (map (λ (q : Piece W). q.hi) (filter (fits bounds lo) pieces)) (p.hi ∷ [])
        | false ↦ ap (λ ps. fold max 0 (map (λ (q : Piece W). q.hi) ps)) (append-nil (filter (fits bounds lo) pieces))
      ]

  end_is : (pieces : List (Piece W)) (lo : ℕ) (slot : Option (Piece W)) → IsLongest bounds pieces lo slot
      → slot_end slot ≡ longest_end bounds pieces lo
  end_is pieces lo None h = sym h
  end_is pieces lo (Some q) h = h.3

  still : (pieces : List (Piece W)) (p : Piece W) (lo : ℕ) (slot : Option (Piece W))
      → longest_end bounds (pieces ++ p ∷ []) lo ≡ longest_end bounds pieces lo
      → IsLongest bounds pieces lo slot → IsLongest bounds (pieces ++ p ∷ []) lo slot
  still pieces p lo None e h = e ∙ h
  still pieces p lo (Some q) e h = (Contains-append_left pieces (p ∷ []) q h.0, h.1, h.2, h.3 ∙ sym e)

  one_more : (pieces : List (Piece W)) (p : Piece W) (lo : ℕ) (slot : Option (Piece W))
      → IsLongest bounds pieces lo slot
      → IsLongest bounds (pieces ++ p ∷ []) lo (longer bounds lo p slot)
  one_more pieces p lo slot h =
      elim (fits bounds lo p) as
      (λ t. fits bounds lo p ≡ t
      → IsLongest bounds (pieces ++ p ∷ []) lo (cond (t && nat_lt (slot_end slot) p.hi) (Some p) slot)) [
        | true ↦ λ fit.
            let now : longest_end bounds (pieces ++ p ∷ []) lo ≡ max (longest_end bounds pieces lo) p.hi =
            longest_more pieces p lo
            ∙ ap (λ t. cond t (max (longest_end bounds pieces lo) p.hi) (longest_end bounds pieces lo)) fit in
            elim (nat_lt (slot_end slot) p.hi) as
            (λ u. nat_lt (slot_end slot) p.hi ≡ u
            → IsLongest bounds (pieces ++ p ∷ []) lo (cond u (Some p) slot)) [
              | true ↦ λ test.
                  let above : slot_end slot < p.hi = grind (arith, nat_tests) in
                  let tests = both (p.lo == lo) (list_any (λ b. b == p.hi) bounds) fit in
                  (Contains-push pieces p, alike p.lo lo tests.0, tests.1, omega (arith, now, end_is pieces lo slot h))
              | false ↦ λ test.
                  let below : p.hi ≤ slot_end slot = grind (arith, nat_tests) in
                  still pieces p lo slot (omega (arith, now, end_is pieces lo slot h)) h
            ] refl
        | false ↦ λ fit. still pieces p lo slot
            (longest_more pieces p lo
            ∙ ap (λ t. cond t (max (longest_end bounds pieces lo) p.hi) (longest_end bounds pieces lo)) fit) h
      ] refl

  pub seen_one_more : (pieces : List (Piece W)) (p : Piece W) (old new : List (Option (Piece W)))
      → KeepsLongest bounds p old new
      → AreLongest bounds pieces 0 old → AreLongest bounds (pieces ++ p ∷ []) 0 new
  seen_one_more pieces p old new keeps longest = λ j from within.
      subst (λ slot. IsLongest bounds (pieces ++ p ∷ []) (get_or bounds j 0) slot) (sym (keeps j within))
      (one_more pieces p (get_or bounds j 0) (get_or old j None) (longest j from within))

  -- what ends at no bound fits nowhere
  pub ends_nowhere : (p : Piece W) → ((j : ℕ) → j < length bounds → get_or bounds j 0 ≢ p.hi) → (lo : ℕ)
      → fits bounds lo p ≡ false
  ends_nowhere p never lo =
      ap (λ t. p.lo == lo && t) (list_any_none (λ b. b == p.hi) bounds
      (All-from_get_or (λ b. (b == p.hi) ≡ false) bounds 0
      (λ j within. unlike (get_or bounds j 0) p.hi (never j within))))
      ∙ elim (p.lo == lo) as (λ t. (t && false) ≡ false) [ true ↦ refl | false ↦ refl ]

  pub none_seen : (slots : List (Option (Piece W))) → length slots ≡ length bounds → AreEmpty slots
      → AreLongest bounds [] 0 slots
  none_seen slots same empty = λ j from within. subst (λ slot. IsLongest bounds [] (get_or bounds j 0) slot)
      (sym (empty j (omega arith))) refl

  module _ (rises : IsStrictlyIncreasing bounds) (p : Piece W) (place : ℕ) (within : place < length bounds)
      (begins : get_or bounds place 0 ≡ p.lo) (ends : list_any (λ b. b == p.hi) bounds ≡ true) where
    fits_there : (j : ℕ) → j ≡ place → fits bounds (get_or bounds j 0) p ≡ true
    fits_there j here =
        let same : p.lo ≡ get_or bounds j 0 = sym (ap (λ k. get_or bounds k 0) here ∙ begins) in
        ap (λ t. t && list_any (λ b. b == p.hi) bounds) (is_same p.lo (get_or bounds j 0) same) ∙ ends

    nowhere_else : (j : ℕ) → j ≢ place → j < length bounds → fits bounds (get_or bounds j 0) p ≡ false
    nowhere_else j other h =
        let differ : p.lo ≢ get_or bounds j 0 = λ same. ⊎_elim
        (λ (below : place < j). absurd (omega (arith, rising bounds rises place j below h)))
        (λ (above : j ≤ place). absurd (omega (arith, rising bounds rises j place (omega arith) within)))
        (below_or_not place j) in
        ap (λ t. t && list_any (λ b. b == p.hi) bounds) (unlike p.lo (get_or bounds j 0) differ)

    -- the piece is put where it fits
    pub put_there : (slots : List (Option (Piece W))) → length slots ≡ length bounds
        → slot_end (get_or slots place None) < p.hi
        → KeepsLongest bounds p slots (set slots place (Some p))
    put_there slots same above = λ j h.
        ⊎_elim
        (λ (here : j ≡ place).
        let test : nat_lt (slot_end (get_or slots j None)) p.hi ≡ true =
        subst (λ k. nat_lt (slot_end (get_or slots k None)) p.hi ≡ true) (sym here) (grind (arith, nat_tests)) in
        subst (λ k. get_or (set slots place (Some p)) k None ≡ Some p) (sym here)
        (get_or-set_same slots place (Some p) None (omega arith))
        ∙ sym (ap (λ t. cond (t && nat_lt (slot_end (get_or slots j None)) p.hi) (Some p) (get_or slots j None))
        (fits_there j here)
        ∙ ap (λ t. cond t (Some p) (get_or slots j None)) test))
        (λ (other : j ≢ place).
        get_or-set_other slots place j (Some p) None other
        ∙ sym (ap (λ t. cond (t && nat_lt (slot_end (get_or slots j None)) p.hi) (Some p) (get_or slots j None))
        (nowhere_else j other h)))
        (same_or_not j place)

    -- as long a piece is there
    pub left_there : (slots : List (Option (Piece W))) → p.hi ≤ slot_end (get_or slots place None)
        → KeepsLongest bounds p slots slots
    left_there slots below = λ j h.
        ⊎_elim
        (λ (here : j ≡ place).
        let test : nat_lt (slot_end (get_or slots j None)) p.hi ≡ false =
        subst (λ k. nat_lt (slot_end (get_or slots k None)) p.hi ≡ false) (sym here) (grind (arith, nat_tests)) in
        sym (ap (λ t. cond (t && nat_lt (slot_end (get_or slots j None)) p.hi) (Some p) (get_or slots j None))
        (fits_there j here)
        ∙ ap (λ t. cond t (Some p) (get_or slots j None)) test))
        (λ (other : j ≢ place).
        sym (ap (λ t. cond (t && nat_lt (slot_end (get_or slots j None)) p.hi) (Some p) (get_or slots j None))
        (nowhere_else j other h)))
        (same_or_not j place)

  -- the piece fits nowhere
  pub fits_nowhere : (p : Piece W) (slots : List (Option (Piece W)))
      → ((j : ℕ) → j < length bounds → fits bounds (get_or bounds j 0) p ≡ false)
      → KeepsLongest bounds p slots slots
  fits_nowhere p slots never = λ j h.
      sym (ap (λ t. cond (t && nat_lt (slot_end (get_or slots j None)) p.hi) (Some p) (get_or slots j None))
      (never j h))
