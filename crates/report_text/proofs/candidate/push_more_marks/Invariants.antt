use Rattle.std.proofs.Common.{◌≡◌, ◌++◌, drop}
use Rattle.report_text.specs.Texts.{more_marks_text}
use Rattle.report_text.proofs.candidate.push_more_marks.Given as goal

-- what is there and the text of the rest are what was there and the text of all
abbrev pub invariant-marks : goal.invariant-marks
invariant-marks l = l.text.items ++ more_marks_text l.labels (drop l.mark-index l.marks)
    ≡ l.fn.text.items ++ more_marks_text l.labels l.marks
