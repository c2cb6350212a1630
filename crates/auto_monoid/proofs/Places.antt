-- Lemmas on the place of a function in a list, and on adding what is new.
use Rattle.std.proofs.Common.{◌≡◌, ℕ, zero, suc, ◌<◌, ◌≤◌, Bool, true, false, List, [], ◌∷◌, ◌++◌, length}
use Rattle.std.proofs.Common.{get_or, cond, inl, inr, refl, sym, ap, ◌∙◌, All, arith}
use Rattle.std.specs.List.{fold, IsDistinct}
use Rattle.std.specs.Prelude.{nat_lt}
use Rattle.std.specs.Cmp.Lexicographic.{same_text}
use Rattle.std.proofs.lemmas.Cmp.{nat_list_eq_equiv}
use Rattle.std.proofs.lemmas.Bool.{cases_lt, ltb-true, ltb-false}
use Rattle.std.proofs.lemmas.List.{length-append, get_or_append_left}
use Rattle.std.proofs.lemmas.List.Elements.{All-push}
use Rattle.std.proofs.lemmas.List.Folds.{list_any_none}
use Rattle.std.proofs.lemmas.List.Sums.{passes_at_first, fails_before_first}
use Rattle.std.proofs.lemmas.Map.Keys.{IsDistinct-push}
use Rattle.std.proofs.Math.Seq.{get_or-append_seam}
use Rattle.auto_monoid.specs.Functions.{same, number_of}
use Rattle.auto_monoid.specs.Numbering.{with_new}

-- the function is in the list
abbrev pub IsThere : List (List ℕ) → List ℕ → Type 0
IsThere fs f = number_of fs f < length fs

pub same-is : (f g : List ℕ) → same f g ≡ true → f ≡ g
same-is f g is = same_text f g (sym is)

true≢false : true ≡ false → ⊥
true≢false is = cc

pub number_of-at : (fs : List (List ℕ)) (f : List ℕ) → IsThere fs f → get_or fs (number_of fs f) [] ≡ f
number_of-at fs f there =
    sym (same-is f (get_or fs (number_of fs f) []) (passes_at_first (same f) fs [] there))

pub number_of-within : (fs : List (List ℕ)) (f : List ℕ) (k : ℕ) → get_or fs k [] ≡ f → number_of fs f ≤ k
number_of-within fs f k is = elim (cases_lt k (number_of fs f)) [
  | inl before ↦
      absurd (true≢false (sym (nat_list_eq_equiv.refl f)
      ∙ ap (same f) (sym is) ∙ fails_before_first (same f) fs k [] before))
  | inr within ↦ within
]

pub IsThere-at : (fs : List (List ℕ)) (f : List ℕ) (k : ℕ) → k < length fs → get_or fs k [] ≡ f → IsThere fs f
IsThere-at fs f k below is = (let within = number_of-within fs f k is in omega arith)

pub IsThere-append : (fs gs : List (List ℕ)) (f : List ℕ) → IsThere fs f → IsThere (fs ++ gs) f
IsThere-append fs gs f there =
    IsThere-at (fs ++ gs) f (number_of fs f)
    (let longer = length-append fs gs in omega arith)
    (get_or_append_left fs gs [] (number_of fs f) there ∙ number_of-at fs f there)

IsThere-push : (fs : List (List ℕ)) (f : List ℕ) → IsThere (fs ++ f ∷ []) f
IsThere-push fs f =
    IsThere-at (fs ++ f ∷ []) f (length fs)
    (let longer = length-append fs (f ∷ []) in omega arith)
    (get_or-append_seam fs f [] [])

-- where a list with what is new has a property
with_new-cases : (P : List (List ℕ) → Type 0) (fs : List (List ℕ)) (f : List ℕ)
    → (IsThere fs f → P fs) → (length fs ≤ number_of fs f → P (fs ++ f ∷ [])) → P (with_new fs f)
with_new-cases P fs f there new = by_test (nat_lt (number_of fs f) (length fs)) refl
  where
    by_test : (t : Bool) → nat_lt (number_of fs f) (length fs) ≡ t → P (cond t fs (fs ++ f ∷ []))
    by_test true is = there (ltb-true (number_of fs f) (length fs) is)
    by_test false is = new (ltb-false (number_of fs f) (length fs) is)

pub with_new-keeps : (fs : List (List ℕ)) (f g : List ℕ) → IsThere fs g → IsThere (with_new fs f) g
with_new-keeps fs f g there =
    with_new-cases (λ hs. IsThere hs g) fs f (λ _. there) (λ _. IsThere-append fs (f ∷ []) g there)

with_new-has : (fs : List (List ℕ)) (f : List ℕ) → IsThere (with_new fs f) f
with_new-has fs f = with_new-cases (λ hs. IsThere hs f) fs f (λ there. there) (λ _. IsThere-push fs f)

with_new-longer : (fs : List (List ℕ)) (f : List ℕ) → length fs ≤ length (with_new fs f)
with_new-longer fs f =
    with_new-cases (λ hs. length fs ≤ length hs) fs f (λ _. omega arith)
    (λ _. (let longer = length-append fs (f ∷ []) in omega arith))

with_new-at : (fs : List (List ℕ)) (f : List ℕ) (k : ℕ) (d : List ℕ) → k < length fs
    → get_or (with_new fs f) k d ≡ get_or fs k d
with_new-at fs f k d below =
    with_new-cases (λ hs. get_or hs k d ≡ get_or fs k d) fs f (λ _. refl)
    (λ _. get_or_append_left fs (f ∷ []) d k below)

with_new-All : (P : List ℕ → Type 0) (fs : List (List ℕ)) (f : List ℕ) → All P fs → P f → All P (with_new fs f)
with_new-All P fs f all here = with_new-cases (All P) fs f (λ _. all) (λ _. All-push P fs f all here)

with_new-IsDistinct : (fs : List (List ℕ)) (f : List ℕ) → IsDistinct same fs → IsDistinct same (with_new fs f)
with_new-IsDistinct fs f distinct =
    with_new-cases (IsDistinct same) fs f (λ _. distinct)
    (λ new. IsDistinct-push nat_list_eq_equiv fs f distinct
    (list_any_none (same f) fs (λ k d below. fails_before_first (same f) fs k d (omega arith))))

-- the same of a whole list
pub fold_new-keeps : (gs fs : List (List ℕ)) (g : List ℕ) → IsThere fs g → IsThere (fold with_new fs gs) g
fold_new-keeps [] fs g there = there
fold_new-keeps (f ∷ gs) fs g there = fold_new-keeps gs (with_new fs f) g (with_new-keeps fs f g there)

pub fold_new-has : (gs fs : List (List ℕ)) (k : ℕ) → k < length gs → IsThere (fold with_new fs gs) (get_or gs k [])
fold_new-has [] fs k below = absurd (omega arith)
fold_new-has (f ∷ gs) fs zero below = fold_new-keeps gs (with_new fs f) f (with_new-has fs f)
fold_new-has (f ∷ gs) fs (suc k) below = fold_new-has gs (with_new fs f) k (omega arith)

pub fold_new-longer : (gs fs : List (List ℕ)) → length fs ≤ length (fold with_new fs gs)
fold_new-longer [] fs = omega arith
fold_new-longer (f ∷ gs) fs =
    (let one = with_new-longer fs f in
    let later = fold_new-longer gs (with_new fs f) in
    omega arith)

pub fold_new-at : (gs fs : List (List ℕ)) (k : ℕ) (d : List ℕ) → k < length fs
    → get_or (fold with_new fs gs) k d ≡ get_or fs k d
fold_new-at [] fs k d below = refl
fold_new-at (f ∷ gs) fs k d below =
    fold_new-at gs (with_new fs f) k d (let longer = with_new-longer fs f in omega arith)
    ∙ with_new-at fs f k d below

pub fold_new-All : (P : List ℕ → Type 0) (gs fs : List (List ℕ)) → All P fs → All P gs → All P (fold with_new fs gs)
fold_new-All P [] fs all later = all
fold_new-All P (f ∷ gs) fs all later =
    fold_new-All P gs (with_new fs f) (with_new-All P fs f all (later 0 [] (omega arith)))
    (λ k d below. later (suc k) d (omega arith))

pub fold_new-IsDistinct : (gs fs : List (List ℕ)) → IsDistinct same fs → IsDistinct same (fold with_new fs gs)
fold_new-IsDistinct [] fs distinct = distinct
fold_new-IsDistinct (f ∷ gs) fs distinct =
    fold_new-IsDistinct gs (with_new fs f) (with_new-IsDistinct fs f distinct)
