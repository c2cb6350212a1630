-- The steps of a walk over the marks of two lists of one length.
use Rattle.std.proofs.Common.{◌≡◌, ℕ, ◌<◌, ◌≤◌, List, ◌++◌, length, sym, ap, ◌∙◌, arith, length-append}
use Rattle.std.specs.declared.cmp.Ordering.TheVariants.{Equal}
use Rattle.shape_gen.specs.declared.mark.Mark.{Mark}
use Rattle.witness_order.specs.Shortlex.{mark_order, shortlex}
use Rattle.witness_order.proofs.Orders.{mark_order-IsRanking, shortlex-KeepsRanking}
use Rattle.mark_runs.specs.declared.run.Run.{Run}
use Rattle.mark_runs.specs.Runs.{neighbours, first_mark, marks_of_run}
use Rattle.mark_runs.proofs.Neighbours.{length-neighbours}

module _ (x y : Run) (a b : List Mark) where
  -- runs that begin alike
  module _ (count : ℕ) (alike : mark_order (first_mark x) (first_mark y) ≡ Equal) (left right : List Mark)
      (left_is : marks_of_run x ++ a ≡ neighbours x.row count x.label ++ left)
      (right_is : marks_of_run y ++ b ≡ neighbours y.row count y.label ++ right) where
    same_marks : neighbours y.row count y.label ≡ neighbours x.row count x.label
    same_marks =
        let same = mark_order-IsRanking.same (first_mark x) (first_mark y) alike in
        ap (λ (m : Mark). neighbours m.row count m.label) (sym same)

    pub walk_on : shortlex left right ≡ shortlex (marks_of_run x ++ a) (marks_of_run y ++ b)
    walk_on =
        sym (shortlex-KeepsRanking.keeps_left (neighbours x.row count x.label) left right)
        ∙ ap (shortlex (neighbours x.row count x.label ++ left)) (ap (λ l. l ++ right) (sym same_marks) ∙ sym right_is)
        ∙ ap (λ l. shortlex l (marks_of_run y ++ b)) (sym left_is)

    pub walk_even : length (marks_of_run x ++ a) ≡ length (marks_of_run y ++ b) → length left ≡ length right
    walk_even even =
        let left_all = ap length left_is ∙ length-append (neighbours x.row count x.label) left in
        let right_all = ap length right_is ∙ length-append (neighbours y.row count y.label) right in
        let left_count = length-neighbours count x.row x.label in
        let right_count = length-neighbours count y.row y.label in
        omega (arith, even, left_all, right_all, left_count, right_count)

pub walk_shorter : (count : ℕ) (row label : ℕ) (all left : List Mark) → 1 ≤ count
    → all ≡ neighbours row count label ++ left → length left < length all
walk_shorter count row label all left some is =
    let whole = ap length is ∙ length-append (neighbours row count label) left in
    let taken = length-neighbours count row label in
    omega (arith, whole, taken)
