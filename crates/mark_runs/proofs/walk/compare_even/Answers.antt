-- The same marks are taken off on both sides.
use Rattle.std.proofs.Common.{◌++◌, ◌≤◌, ℕ, sym, ◌∙◌, arith}
use Rattle.mark_runs.specs.Runs.{marks_of_run, marks_of_front}
use Rattle.mark_runs.proofs.Walks.{walk_on, walk_even, walk_shorter}
use Rattle.mark_runs.proofs.walk.compare_even.Goals as goal

pub walk-smaller : goal.walk-smaller
walk-smaller c =
    let x = c.in-Some-Some.x in
    let y = c.in-Some-Some.y in
    let count : ℕ = c.min-count.result in
    let some : 1 ≤ count = omega arith in
    rw (c.in-Some-Some.is-0)
    (walk_shorter count x.row x.label (marks_of_run x ++ c.walk.a)
    (marks_of_front c.behind-left.result ++ c.behind-left.new.self) some c.behind-left.ensures.taken)

pub walk-preserved : goal.walk-preserved
walk-preserved c =
    let x = c.in-Some-Some.x in
    let y = c.in-Some-Some.y in
    let count : ℕ = c.min-count.result in
    let left = marks_of_front c.behind-left.result ++ c.behind-left.new.self in
    let right = marks_of_front c.behind-right.result ++ c.behind-right.new.self in
    let alike = sym c.compare_first.ensures ∙ c.in-Equal.is in
    let even = rw (c.in-Some-Some.is-0, c.in-Some-Some.is-1) at c.walk.invariant.even in
    let same = rw (c.in-Some-Some.is-0, c.in-Some-Some.is-1) at c.walk.invariant.same in
    record {
      even =
          walk_even x y c.walk.a c.walk.b count alike left right
          c.behind-left.ensures.taken c.behind-right.ensures.taken even;
      same =
          walk_on x y c.walk.a c.walk.b count alike left right
          c.behind-left.ensures.taken c.behind-right.ensures.taken
          ∙ same;
      left_ends = c.behind-left.ensures.none_left;
      right_ends = c.behind-right.ensures.none_left;
    }
