use Rattle.std.proofs.Common.{◌≡◌, ◌+◌, ◌++◌, drop}
use Rattle.std.specs.Fmt.{signed_decimal}
use Rattle.report_text.specs.Texts.{best_text, entries_text}
use Rattle.report_text.proofs.answer.best_text.Given as goal

-- what is there and the lines of the rest are the whole report
abbrev pub invariant-entries : goal.invariant-entries
invariant-entries l = l.text.items ++ entries_text signed_decimal l.labels (l.index + 1) (drop l.index l.entries)
    ≡ best_text signed_decimal l.labels l.entries
