use Rattle.std.proofs.Common.{◌≡◌, ◌++◌, drop}
use Rattle.report_text.specs.Texts.{candidate_lines, list_text}
use Rattle.gta_meaning.specs.Listed.{marks_of}
use Rattle.gta_job.proofs.listing.list_report.Given as goal

-- what is there and the lines of the rest are the whole text
abbrev pub invariant-candidates : goal.invariant-candidates
invariant-candidates l =
    l.text.items ++ candidate_lines l.labels (marks_of (drop l.candidate-index l.list))
    ≡ list_text l.labels (marks_of l.list)
