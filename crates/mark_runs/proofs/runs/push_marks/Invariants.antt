use Rattle.std.proofs.Common.{◌≡◌, ◌++◌}
use Rattle.mark_runs.specs.Runs.{neighbours}
use Rattle.mark_runs.proofs.runs.push_marks.Given as goal

abbrev pub invariant-rows : goal.invariant-rows
invariant-rows l = l.marks.items ≡ l.initial.marks.items ++ neighbours l.run.row l.further l.run.label
