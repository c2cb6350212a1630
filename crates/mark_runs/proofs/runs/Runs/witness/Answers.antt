use Rattle.mark_runs.proofs.Neighbours.{marks_of_runs-more}
use Rattle.mark_runs.proofs.runs.Runs.witness.Goals as goal

pub runs-preserved : goal.runs-preserved
runs-preserved c =
    let added = rw c.runs.invariant at c.in_ok-push_marks.ensures in
    marks_of_runs-more c.push_marks.new.marks.items c.runs-run-items.result.now c.runs.run-index c.run-item.result _
    c.runs-test.true c.run-item.is added
