-- The parts of lo..hi from those of lo..mid and mid..hi, the parts of no rows, and the candidates from the parts of
-- all rows.
use Rattle.std.proofs.Common.{◌≡◌, refl, sym, ap, ◌∙◌, subst, ℕ, zero, suc, ◌+◌, ◌-◌, ◌≤◌, [], ◌∷◌, ◌++◌, map, arith}
use Rattle.std.specs.List.{range_with_len}
use Rattle.std.specs.List.Sorted.{IsPermutation}
use Rattle.shape_gen.specs.declared.shape.Shape.{Shape}
use Rattle.shape_gen.specs.declared.shape.Shape.TheVariants.{Sublists, Assign, Prefixes, Suffixes, Segments}
use Rattle.shape_gen.specs.Candidates.{run, sublists, assignments, prefixes, suffixes, segments, candidates}
use Rattle.shape_gen.specs.Parts.{Whole, Pre, Suf, Seg, wholes, part}
use Rattle.shape_gen.proofs.Lists.{concats}
use Rattle.shape_gen.proofs.Splits.{run-split, sublists-split, assignments-split, prefixes-split, suffixes-split}
use Rattle.shape_gen.proofs.Splits.{segments-split}

wholes-split : (shape : Shape) (labels first n k : ℕ)
    → wholes shape labels first (n + k) ≡ concats (wholes shape labels first n) (wholes shape labels (first + n) k)
wholes-split Sublists labels first n k = sublists-split first n k
wholes-split Assign labels first n k = assignments-split labels first n k
wholes-split Prefixes labels first n k = ap (λ c. c ∷ []) (run-split first n k)
wholes-split Suffixes labels first n k = ap (λ c. c ∷ []) (run-split first n k)
wholes-split Segments labels first n k = ap (λ c. c ∷ []) (run-split first n k)

module _ (shape : Shape) (labels lo mid hi : ℕ) (left : lo ≤ mid) (right : mid ≤ hi) where
  count : hi - lo ≡ (mid - lo) + (hi - mid)
  count = omega arith

  place : lo + (mid - lo) ≡ mid
  place = omega arith

  pub whole-parts : part shape labels Whole lo hi ≡ concats (part shape labels Whole lo mid)
      (part shape labels Whole mid hi)
  whole-parts =
      ap (wholes shape labels lo) count ∙ wholes-split shape labels lo (mid - lo) (hi - mid)
      ∙ ap (λ a. concats (part shape labels Whole lo mid) (wholes shape labels a (hi - mid))) place

  pub pre-parts : part shape labels Pre lo hi
      ≡ part shape labels Pre lo mid ++ concats (run lo (mid - lo) ∷ []) (part shape labels Pre mid hi)
  pre-parts =
      ap (prefixes lo) count ∙ prefixes-split lo (mid - lo) (hi - mid)
      ∙ ap (λ a. prefixes lo (mid - lo) ++ concats (run lo (mid - lo) ∷ []) (prefixes a (hi - mid))) place

  pub suf-parts : part shape labels Suf lo hi
      ≡ part shape labels Suf mid hi ++ concats (part shape labels Suf lo mid) (run mid (hi - mid) ∷ [])
  suf-parts =
      ap (suffixes lo) count ∙ suffixes-split lo (mid - lo) (hi - mid)
      ∙ ap (λ a. suffixes a (hi - mid) ++ concats (suffixes lo (mid - lo)) (run a (hi - mid) ∷ [])) place

  pub seg-parts : IsPermutation (part shape labels Seg lo hi)
      (part shape labels Seg lo mid ++ (part shape labels Seg mid hi
      ++ concats (part shape labels Suf lo mid) (part shape labels Pre mid hi)))
  seg-parts =
      subst (λ n. IsPermutation (segments lo n) (part shape labels Seg lo mid ++ (part shape labels Seg mid hi
      ++ concats (part shape labels Suf lo mid) (part shape labels Pre mid hi)))) (sym count)
      (subst (λ a. IsPermutation (segments lo ((mid - lo) + (hi - mid)))
      (segments lo (mid - lo) ++ (segments a (hi - mid)
      ++ concats (suffixes lo (mid - lo)) (prefixes a (hi - mid))))) place (segments-split lo (mid - lo) (hi - mid)))

-- no rows: whole has the one empty list, and the others none

no_rows : (lo : ℕ) → lo - lo ≡ zero
no_rows lo = omega arith

wholes-none : (shape : Shape) (labels first : ℕ) → wholes shape labels first zero ≡ [] ∷ []
wholes-none Sublists labels first = refl
wholes-none Assign labels first = refl
wholes-none Prefixes labels first = refl
wholes-none Suffixes labels first = refl
wholes-none Segments labels first = refl

pub whole-none : (shape : Shape) (labels lo : ℕ) → part shape labels Whole lo lo ≡ [] ∷ []
whole-none shape labels lo = ap (wholes shape labels lo) (no_rows lo) ∙ wholes-none shape labels lo

pub pre-none : (shape : Shape) (labels lo : ℕ) → part shape labels Pre lo lo ≡ []
pre-none shape labels lo = ap (prefixes lo) (no_rows lo)

pub suf-none : (shape : Shape) (labels lo : ℕ) → part shape labels Suf lo lo ≡ []
suf-none shape labels lo = ap (suffixes lo) (no_rows lo)

pub seg-none : (shape : Shape) (labels lo : ℕ) → part shape labels Seg lo lo ≡ []
seg-none shape labels lo = ap (segments lo) (no_rows lo)

-- candidates from the parts of all rows: whole, or the empty candidate and the nonempty ones

all_rows : (n : ℕ) → n ≡ n - 0
all_rows n = omega arith

pub candidates-sublists : (n labels : ℕ) → candidates Sublists n labels ≡ part Sublists labels Whole 0 n
candidates-sublists n labels = ap (sublists 0) (all_rows n)

pub candidates-assign : (n labels : ℕ) → candidates Assign n labels ≡ part Assign labels Whole 0 n
candidates-assign n labels = ap (assignments labels 0) (all_rows n)

pub candidates-prefixes : (n labels : ℕ) → candidates Prefixes n labels ≡ [] ∷ part Prefixes labels Pre 0 n
candidates-prefixes n labels =
    let count : n + 1 ≡ suc n = omega arith in
    ap (λ m. map (run 0) (range_with_len 0 m)) count ∙ ap (λ m. [] ∷ prefixes 0 m) (all_rows n)

pub candidates-suffixes : (n labels : ℕ) → candidates Suffixes n labels ≡ [] ∷ part Suffixes labels Suf 0 n
candidates-suffixes n labels =
    let count : n + 1 ≡ suc n = omega arith in
    let last : n ≡ 0 + n = omega arith in
    ap (λ m. map (λ length. run (n - length) length) (range_with_len 0 m)) count
    ∙ ap (λ m. [] ∷ map (λ length. run (m - length) length) (range_with_len 1 n)) last
    ∙ ap (λ m. [] ∷ suffixes 0 m) (all_rows n)

pub candidates-segments : (n labels : ℕ) → candidates Segments n labels ≡ [] ∷ part Segments labels Seg 0 n
candidates-segments n labels = ap (λ m. [] ∷ segments 0 m) (all_rows n)
