-- The candidates that pass have their labels.
use Rattle.std.proofs.Common.{rules, ◌≡◌, All, sym, ap, subst, ◌∙◌}
use Rattle.report_text.specs.Texts.{AreLabelled}
use Rattle.gta_checked.specs.PlainRows.{plain_rows}
use Rattle.gta_meaning.specs.Kept.{kept}
use Rattle.gta_meaning.specs.Listed.{marks_of}
use Rattle.gta_job.proofs.Labelled.{kept-labelled}
use Rattle.gta_job.proofs.listing.rows_list.Goals as goal

pub list_report-requires : goal.list_report-requires
list_report-requires c =
    let checked = c.args.job.now.checked in
    let rows = plain_rows c.args.job.now.rows in
    let labels : c.deref.result.now ≡ checked.labels = search rules in
    let list : marks_of c.as_slice.result.now ≡ kept checked rows =
    ap marks_of c.as_slice.ensures.value ∙ c.in_ok-list.ensures.kept in
    subst (λ l. All (AreLabelled l) (marks_of c.as_slice.result.now)) (sym labels)
    (subst (All (AreLabelled checked.labels)) (sym list) (kept-labelled checked rows))
