-- The extents of lists of candidates: of none, of one, of joined ones, and of those with a row more.
use Rattle.std.proofs.Common.{◌≡◌, ℕ, ◌+◌, ◌<◌, Bool, true, false, nat_eq, cond, List, [], ◌∷◌}
use Rattle.std.proofs.Common.{◌++◌, map, length, get_or, set, Option, Some, None, refl, sym, ap, ◌∙◌}
use Rattle.std.proofs.Common.{subst, inl, inr, arith}
use Rattle.std.proofs.lemmas.List.{length-append, length-map, append-nil, get_or-set_same, get_or-set_other}
use Rattle.std.proofs.lemmas.List.Sums.{sum_by-cons, sum_by-append}
use Rattle.std.proofs.lemmas.Grind.{flat_map-append}
use Rattle.std.proofs.lemmas.Bool.{cases_eq, eq-eqb, ne_eqb}
use Rattle.shape_gen.specs.declared.counting.Extent.{Extent}
use Rattle.shape_gen.specs.declared.mark.Mark.{Mark}
use Rattle.shape_gen.specs.Candidates.{mark}
use Rattle.shape_gen.specs.Extents.{mark_count}
use Rattle.walk_gen.specs.declared.walker.Move.{Move}
use Rattle.walk_gen.specs.declared.walker.TheConstants.{STATE_LIMIT}
use Rattle.walk_gen.specs.Walks.{at_end, moved, taken}
use Rattle.walk_gen.specs.Extents.{HasExtent, HaveExtents, end_extent, joined, no_candidate, with_row}

pub has_none : HasExtent [] no_candidate
has_none = record { candidates = omega arith; marks = omega arith }

pub has_end : (ends : ℕ → Bool) (state : ℕ) (is : Bool) → ends state ≡ is
    → HasExtent (at_end ends state) (end_extent is)
has_end ends state true is = rw is record { candidates = omega arith; marks = omega arith }
has_end ends state false is = rw is has_none

pub has_joined : (xs ys : List (List Mark)) (a b : Extent) → HasExtent xs a → HasExtent ys b
    → HasExtent (xs ++ ys) (joined a b)
has_joined xs ys a b has_a has_b = record {
  candidates = (let count = length-append xs ys in omega (arith, has_a.candidates, has_b.candidates, count));
  marks = (let count : mark_count (xs ++ ys) ≡ mark_count xs + mark_count ys = sum_by-append length xs ys in
      omega (arith, has_a.marks, has_b.marks, count));
}

marks_longer : (m : Mark) (cs : List (List Mark)) → mark_count (map (λ c. m ∷ c) cs) ≡ mark_count cs + length cs
marks_longer m [] = refl
marks_longer m (c ∷ cs) =
    let whole = sum_by-cons length (m ∷ c) (map (λ c. m ∷ c) cs) in
    let rest = marks_longer m cs in
    let back = sum_by-cons length c cs in omega (arith, whole, rest, back)

pub map_bare : (xs : List (List Mark)) → map (λ rest. [] ++ rest) xs ≡ xs
map_bare [] = refl
map_bare (x ∷ xs) = ap (λ ys. x ∷ ys) (map_bare xs)

pub has_row : (row : ℕ) (take : Option ℕ) (xs : List (List Mark)) (extent : Extent) → HasExtent xs extent
    → HasExtent (map (λ rest. taken row take ++ rest) xs) (with_row take extent)
has_row row None xs extent has = subst (λ ys. HasExtent ys extent) (sym (map_bare xs)) has
has_row row (Some label) xs extent has = record {
  candidates = (let count = length-map xs (λ (rest : List Mark). mark row label ∷ rest) in
      omega (arith, has.candidates, count));
  marks = (let count = marks_longer (mark row label) xs in omega (arith, has.marks, has.candidates, count));
}

-- what one move adds to the candidates of a state
abbrev pub step : ℕ → (ℕ → List (List Mark)) → ℕ → Move → List (List Mark)
step row lists state move =
    cond (nat_eq move.from state) (map (λ rest. taken row move.take ++ rest) (lists move.to)) []

-- one move more, where its extent is added to that of the state that it leaves
pub one_move_more : (row : ℕ) (lists : ℕ → List (List Mark)) (moves : List Move) (move : Move)
    (rest more : List Extent) (from : ℕ) → from ≡ move.from → length more ≡ STATE_LIMIT → move.to < STATE_LIMIT
    → HaveExtents lists rest → HaveExtents (moved moves row lists) more
    → HaveExtents (moved (moves ++ move ∷ []) row lists)
    (set more from (joined (get_or more from no_candidate) (with_row move.take (get_or rest move.to no_candidate))))
one_move_more row lists moves move rest more from is all to known so_far state below =
    let added : moved (moves ++ move ∷ []) row lists state
    ≡ moved moves row lists state ++ step row lists state move =
    flat_map-append (step row lists state) moves (move ∷ [])
    ∙ ap (λ ys. moved moves row lists state ++ ys) (append-nil (step row lists state move)) in
    elim (cases_eq state from) [
      | inl here ↦ (let test : nat_eq move.from state ≡ true = eq-eqb move.from state (sym is ∙ sym here) in
          let at : get_or (set more from (joined (get_or more from no_candidate)
          (with_row move.take (get_or rest move.to no_candidate)))) state no_candidate
          ≡ joined (get_or more state no_candidate) (with_row move.take (get_or rest move.to no_candidate)) =
          rw here (get_or-set_same more from _ no_candidate (omega (arith, all, below, here))) in
          rw (added, at, test) (has_joined (moved moves row lists state) _ (get_or more state no_candidate) _
          (so_far state below) (has_row row move.take (lists move.to) _ (known move.to to))))
      | inr other ↦ (let test : nat_eq move.from state ≡ false =
          ne_eqb move.from state (λ e. other (sym e ∙ sym is)) in
          let at = get_or-set_other more from state
          (joined (get_or more from no_candidate) (with_row move.take (get_or rest move.to no_candidate)))
          no_candidate other in
          rw (added, at, test) (subst (λ ys. HasExtent ys (get_or more state no_candidate))
          (sym (append-nil (moved moves row lists state))) (so_far state below)))
    ]
