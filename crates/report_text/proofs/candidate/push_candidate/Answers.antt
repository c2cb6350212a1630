use Rattle.report_text.proofs.Labels.{labelled_more}
use Rattle.report_text.proofs.candidate.push_candidate.Goals as goal

pub push_more_marks-requires : goal.push_more_marks-requires
push_more_marks-requires c =
    labelled_more c.args.labels.now c.args.marks.now c.in-Some.first.now c.in-Some.more.now
    c.in-Some.ensures.cases.0 c.requires
