-- The marks of runs one after another, of which two may have become one.
use Rattle.std.proofs.Common.{◌≡◌, ◌++◌, ◌∷◌, ap, ◌∙◌}
use Rattle.std.proofs.lemmas.Result.{IfOk-weaker}
use Rattle.mark_runs.specs.Runs.{marks_of_runs}
use Rattle.mark_runs.proofs.Neighbours.{marks_of_runs-append, marks_of_runs-meet}
use Rattle.mark_runs.proofs.runs.joined_runs.Goals as goal

pub returns-in-Some : goal.returns-in-Some
returns-in-Some c =
    let two = c.in-Some-Some in
    let meet = marks_of_runs-meet two.front.now two.back.now c.args.a.now c.args.b.now two.last.now two.first.now
    c.in-Some.run' two.ensures.cases.0 two.ensures'.cases.0 c.in-Some.ensures in
    IfOk-weaker c.around.result (λ runs. runs.items ≡ two.front.now ++ c.in-Some.run' ∷ two.back.now)
    (λ runs. marks_of_runs runs.items ≡ marks_of_runs c.args.a.now ++ marks_of_runs c.args.b.now)
    (λ runs is. ap marks_of_runs is ∙ meet) c.around.ensures

pub returns : goal.returns
returns c =
    rw (c.in_ok-extend_from_slice-2.ensures.ok, c.in_ok-extend_from_slice.ensures.ok, c.in_ok-runs.ensures.items)
    (marks_of_runs-append c.args.a.now c.args.b.now)
