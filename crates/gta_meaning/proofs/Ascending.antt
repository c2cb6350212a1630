-- Marks whose rows ascend strictly.
use Rattle.std.proofs.Common.{ℕ, zero, suc, ◌<◌, ◌≤◌, List, map, length, get_or, add-one, arith}
use Rattle.std.proofs.lemmas.List.{get_or-map, length-map}
use Rattle.std.specs.List.Sorted.{IsStrictlyIncreasing}
use Rattle.shape_gen.specs.declared.mark.Mark.{Mark}

place-le : (xs : List ℕ) (k : ℕ) → IsStrictlyIncreasing xs → k < length xs → k ≤ get_or xs k 0
place-le xs zero ascends below = omega arith
place-le xs (suc k) ascends below =
    let before = place-le xs k ascends (omega arith) in
    let step : get_or xs k 0 < get_or xs (suc k) 0 = rw add-one at (ascends k (omega arith)) in
    omega arith

-- the row of the mark at k is at least k
pub place-le-row : (marks : List Mark) (k : ℕ) (d : Mark) → IsStrictlyIncreasing (map (λ mark. mark.row) marks)
    → k < length marks → k ≤ (get_or marks k d).row
place-le-row marks k d ascends below =
    let at = get_or-map (λ (mark : Mark). mark.row) marks k d 0 below in
    omega (arith, place-le (map (λ mark. mark.row) marks) k ascends (simp length-map below), at)
