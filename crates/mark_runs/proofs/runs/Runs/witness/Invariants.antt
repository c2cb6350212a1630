use Rattle.std.proofs.Common.{◌≡◌, take}
use Rattle.mark_runs.specs.Runs.{marks_of_runs}
use Rattle.mark_runs.proofs.runs.Runs.witness.Given as goal

abbrev pub invariant-runs : goal.invariant-runs
invariant-runs l = l.marks.items ≡ marks_of_runs (take l.run-index l.run-items)
