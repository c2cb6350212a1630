-- Candidates in range, one row at a time.
use Rattle.std.proofs.Common.{◌≡◌, ℕ, ◌+◌, ◌<◌, List, [], ◌∷◌, ◌++◌, map, length, get_or, All, ⊎_elim, subst, sym}
use Rattle.std.proofs.Common.{arith}
use Rattle.std.proofs.Math.Seq.{get_or-append_seam}
use Rattle.std.proofs.lemmas.Bool.{cases_lt}
use Rattle.std.proofs.lemmas.List.{get_or_append_left, length-append, map-append}
use Rattle.std.proofs.lemmas.List.Elements.{All-map, All-push, All-weaker}
use Rattle.std.specs.List.Sorted.{IsStrictlyIncreasing}
use Rattle.shape_gen.specs.declared.mark.Mark.{Mark}
use Rattle.shape_gen.specs.Candidates.{mark}
use Rattle.gta_meaning.specs.InRange.{IsMarkInRange, IsInRange}

ascending-push : (xs : List ℕ) (y : ℕ) → IsStrictlyIncreasing xs → All (λ x. x < y) xs
    → IsStrictlyIncreasing (xs ++ y ∷ [])
ascending-push xs y ascends below k in_list =
    let short : k + 1 < length xs + 1 = simp length-append at in_list in
    let at_k = get_or_append_left xs (y ∷ []) 0 k (omega arith) in
    let inner : k + 1 < length xs → get_or (xs ++ y ∷ []) k 0 < get_or (xs ++ y ∷ []) (k + 1) 0 =
    λ less. omega (arith, at_k, get_or_append_left xs (y ∷ []) 0 (k + 1) less, ascends k less) in
    let last : length xs < k + 2 → get_or (xs ++ y ∷ []) k 0 < get_or (xs ++ y ∷ []) (k + 1) 0 =
    λ more.
    let end : length xs ≡ k + 1 = omega arith in
    let seam : get_or (xs ++ y ∷ []) (k + 1) 0 ≡ y =
    subst (λ n. get_or (xs ++ y ∷ []) n 0 ≡ y) end (get_or-append_seam xs y [] 0) in
    omega (arith, at_k, seam, below k 0 (omega arith)) in
    ⊎_elim inner (λ ge. last (omega arith)) (cases_lt (k + 1) (length xs))

-- a row that isn't taken
pub in_range-skip : (rows labels : ℕ) (marks : List Mark) → IsInRange rows labels marks
    → IsInRange (rows + 1) labels marks
in_range-skip rows labels marks in_range =
    record {
      each = All-weaker (IsMarkInRange rows labels) (IsMarkInRange (rows + 1) labels)
          (λ m h. record { row = omega (arith, h.row); label = h.label }) marks in_range.each;
      ascending = in_range.ascending;
    }

-- the next row, with a label
pub in_range-push : (rows labels label : ℕ) (marks : List Mark) → IsInRange rows labels marks → label < labels
    → IsInRange (rows + 1) labels (marks ++ mark rows label ∷ [])
in_range-push rows labels label marks in_range below =
    let row_of : Mark → ℕ = λ m. m.row in
    let before : All (λ row. row < rows) (map row_of marks) =
    All-map (λ row. row < rows) row_of marks
    (All-weaker (IsMarkInRange rows labels) (λ m. m.row < rows) (λ m h. h.row) marks in_range.each) in
    record {
      each = All-push (IsMarkInRange (rows + 1) labels) marks (mark rows label)
          (in_range-skip rows labels marks in_range).each (record { row = omega arith; label = below });
      ascending = subst IsStrictlyIncreasing (sym (map-append row_of marks (mark rows label ∷ [])))
          (ascending-push (map row_of marks) rows in_range.ascending before);
    }
