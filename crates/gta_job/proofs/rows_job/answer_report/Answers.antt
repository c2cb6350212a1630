-- What the report asks for: the marks of a best answer have their labels.
use Rattle.std.proofs.Common.{rules, ◌≡◌, ℕ, List, None, Some, subst, sym, ap, ◌∙◌}
use Rattle.report_text.specs.Texts.{IsLabelled, report_text}
use Rattle.gta_checked.specs.PlainRows.{PlainRows, plain_rows}
use Rattle.gta_checked.specs.Plain.{PlainChecked}
use Rattle.gta_checked.specs.declared.resolved.Goal.{Goal}
use Rattle.gta_checked.specs.declared.resolved.Goal.TheVariants.{Count, Any, Max, Min, Best, Ranked}
use Rattle.gta_job.specs.Answers.{answer_by}
use Rattle.gta_job.proofs.Labelled.{best-labelled, ranked-labelled}
use Rattle.gta_job.proofs.rows_job.answer_report.Goals as goal

answer-labelled : (goal : Goal) (checked : PlainChecked) (rows : PlainRows)
    → IsLabelled (answer_by goal checked rows) checked.labels
answer-labelled Count checked rows = search rules
answer-labelled Any checked rows = search rules
answer-labelled (Max measure) checked rows = search rules
answer-labelled (Min measure) checked rows = search rules
answer-labelled (Best k greatest measure) checked rows = best-labelled checked rows k measure greatest
answer-labelled (Ranked None keys) checked rows = search rules
answer-labelled (Ranked (Some k) keys) checked rows = ranked-labelled checked rows k keys

pub report-requires : goal.report-requires
report-requires g c =
    let checked = c.args.prepared.now.job.checked in
    let rows = plain_rows c.args.prepared.now.job.rows in
    subst (λ (labels : List (List ℕ)). IsLabelled c.in_ok-answer.answer labels)
    (sym (c.deref.ensures.value ∙ c.labels.ensures.labels))
    (rw (c.in_ok-answer.ensures.answer) (answer-labelled checked.goal checked rows))

pub returns-clause-text : goal.returns-clause-text
returns-clause-text g c =
    let answer = c.in_ok-answer.answer in
    let labels = c.args.prepared.now.job.checked.labels in
    c.in_ok-report.ensures
    ∙ ap (λ (labels : List (List ℕ)). report_text answer labels) (c.deref.ensures.value ∙ c.labels.ensures.labels)
    ∙ ap (λ answer. report_text answer labels) c.in_ok-answer.ensures.answer
