use Rattle.std.proofs.Common.{◌≡◌, ◌++◌, [], None, length}
use Rattle.witness_order.specs.Shortlex.{shortlex}
use Rattle.mark_runs.specs.Runs.{marks_of_front}
use Rattle.mark_runs.proofs.walk.compare_even.Given as goal

-- what is left on both sides compares as both lists do
abbrev pub invariant-walk : goal.invariant-walk
invariant-walk l = record {
  even : length (marks_of_front l.left ++ l.a) ≡ length (marks_of_front l.right ++ l.b);
  same : shortlex (marks_of_front l.left ++ l.a) (marks_of_front l.right ++ l.b) ≡ shortlex l.fn.a l.fn.b;
  left_ends : l.left ≡ None → l.a ≡ [];
  right_ends : l.right ≡ None → l.b ≡ [];
}

abbrev pub decreases-walk : goal.decreases-walk
decreases-walk l = length (marks_of_front l.left ++ l.a)
