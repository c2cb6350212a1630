-- The ranks are those of the aggregate.
use Rattle.std.proofs.Common.{◌≡◌, length, option_map, sym, ap, ◌∙◌}
use Rattle.gta_checked.specs.PlainRows.{plain_rows}
use Rattle.fuse_answer.specs.Ranks.{lex_of}
use Rattle.gta_checked.specs.declared.resolved.Goal.TheVariants as goals
use Rattle.gta_meaning.specs.Ranks.{best_totals}
use Rattle.report_text.specs.declared.answer.Answer.TheVariants.{Totals}
use Rattle.gta_job.specs.Answers.{answer_by}
use Rattle.gta_job.proofs.rows_job.ranked_answer.Goals as goal

pub returns-in_ok-totals-in-None-clause-answer : goal.returns-in_ok-totals-in-None-clause-answer
returns-in_ok-totals-in-None-clause-answer g c =
    let checked = c.args.prepared.now.job.checked in
    let rows = plain_rows c.args.prepared.now.job.rows in
    let keys = c.args.keys.now in
    ap (Totals (length keys)) c.in_ok-totals-in-None.ensures.answer
    ∙ ap (λ ranks. Totals (length keys) (option_map lex_of (best_totals checked rows ranks))) c.of-ranks.ensures
    ∙ ap (λ goal. answer_by goal checked rows) (sym (c.requires.asked ∙ ap (λ k. goals.Ranked k keys) c.in-None.is))
