use Rattle.std.proofs.Common.{◌≡◌, ◌++◌}
use Rattle.shape_gen.specs.Candidates.{run}
use Rattle.gta_meaning.proofs.numbered.push_run.Given as goal

abbrev pub invariant-loop-place : goal.invariant-loop-place
invariant-loop-place l = l.marks.items ≡ l.fn.marks.items ++ run l.first l.place
