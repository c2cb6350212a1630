use Rattle.std.proofs.Common.{rules, ◌≤◌, ◌∙◌, arith}
use Rattle.semiring_kit.specs.Semiring.{weight_bound}
use Rattle.gta_checked.specs.PlainRows.{plain_rows}
use Rattle.gta_meaning.specs.Heavy.{goal_measures}
use Rattle.gta_meaning.specs.InRange.{label_count}
use Rattle.fuse_answer.specs.Letters.{mark_at}
use Rattle.fuse_answer.proofs.AtPlaces.{letter-is, letters-more}
use Rattle.fuse_answer.proofs.Lawful.{letters-lawful, mark_at-in_range}
use Rattle.fuse_answer.proofs.Light.{row-light}
use Rattle.fuse_answer.proofs.letters.letters_of.Goals as goal

pub of_mark-requires : goal.of_mark-requires
of_mark-requires g c =
    let checked = c.args.prepared.now.job.checked in
    let rows = plain_rows c.args.prepared.now.job.rows in
    let measures = goal_measures checked.goal in
    let labels = c.label_count-labels.result in
    let m = mark_at labels c.loop-place.place in
    let in_range = mark_at-in_range rows.count labels c.loop-place.place c.loop-place-test.true in
    let reach = g.Q.Kit.Semiring.weight_reach (g.Q.Question.kit c.args.question.now) in
    let near = g.met.Q.Question.weight_within c.args.question.now checked rows measures c.requires.weighed m
    (rw (← c.label_count-labels.ensures.labels) in_range.label) in
    let row = row-light checked rows measures c.args.prepared.now.light m.row in_range.row in
    let within : reach (g.Q.Question.weight c.args.question.now checked rows m) ≤ weight_bound =
    omega (arith, near, row) in
    rw (c.kit-kit.ensures, c.weight-weight.ensures) within

pub loop-place-preserved : goal.loop-place-preserved
loop-place-preserved g c =
    let checked = c.args.prepared.now.job.checked in
    let kit = g.Q.Question.kit c.args.question.now in
    let of_mark = g.Q.Kit.Semiring.of_mark kit in
    let weight = g.Q.Question.weight c.args.question.now checked (plain_rows c.args.prepared.now.job.rows) in
    let labels = label_count checked in
    c.in_ok-push.ensures.items
    ∙ letters-more of_mark weight c.args.keys.now labels c.loop-place.place c.loop-place.letters.items _
    c.loop-place.invariant
    (letter-is of_mark weight c.args.keys.now labels c.loop-place.place c.label_count-labels.result
    c.weight-weight.result c.in_ok-elem.elem c.label_count-labels.ensures.labels
    (rw c.kit-kit.ensures at c.in_ok-elem.ensures) c.weight-weight.ensures)

pub returns-clause-lawful : goal.returns-clause-lawful
returns-clause-lawful g c =
    let checked = c.args.prepared.now.job.checked in
    let rows = plain_rows c.args.prepared.now.job.rows in
    let question = c.args.question.now in
    let kit = g.Q.Question.kit question in
    -- the kit may be sent, so that its laws hold wherever a thread may run; here is one such place
    let met = g.met.Q.Kit.Semiring g.world.𝓛 g.world.𝓜 g.world.𝓡 ((λ s x. x), (λ x. x), (λ x. x), λ x. x) in
    letters-lawful (g.Q.Kit.Semiring.ring kit) (g.Q.Kit.Semiring.of_mark kit) (g.Q.Kit.Semiring.weight_reach kit)
    (met.mark_is_sound kit) (met.mark_reach kit)
    (g.Q.Question.weight question checked rows) checked rows c.args.keys.now c.args.prepared.now.light
    (g.met.Q.Question.weight_within question checked rows (goal_measures checked.goal) c.requires.weighed)
    c.loop-place.letters.items (search rules)
