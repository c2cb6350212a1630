use Rattle.std.proofs.Common.{ap, sym, ◌∙◌, ◌+◌, ◌++◌, append_assoc, [], ◌∷◌}
use Rattle.mark_runs.specs.Runs.{neighbours}
use Rattle.mark_runs.proofs.Neighbours.{neighbours-more}
use Rattle.mark_runs.proofs.runs.push_marks.Goals as goal

pub rows-preserved : goal.rows-preserved
rows-preserved c =
    let run = c.args.run in
    let more = neighbours-more c.rows.further run.row run.label in
    rw (c.in_ok-push.ensures.items, c.rows.invariant)
    (append_assoc c.args.marks.now.items (neighbours run.row c.rows.further run.label)
    (record { row = run.row + c.rows.further; label = run.label } ∷ [])
    ∙ ap (λ l. c.args.marks.now.items ++ l) (sym more))
