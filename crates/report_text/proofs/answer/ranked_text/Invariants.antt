use Rattle.std.proofs.Common.{◌≡◌, ◌+◌, ◌++◌, drop}
use Rattle.report_text.specs.Texts.{best_text, entries_text, totals_text}
use Rattle.report_text.proofs.answer.ranked_text.Given as goal

-- what is there and the lines of the rest are the whole report
abbrev pub invariant-entries : goal.invariant-entries
invariant-entries l =
    l.text.items ++ entries_text (totals_text l.parts) l.labels (l.index + 1) (drop l.index l.entries)
    ≡ best_text (totals_text l.parts) l.labels l.entries
