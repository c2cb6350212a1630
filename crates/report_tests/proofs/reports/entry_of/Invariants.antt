use Rattle.std.proofs.Common.{◌<◌}
use Rattle.std.specs.List.{All}
use Rattle.shape_gen.specs.declared.mark.Mark.{Mark}
use Rattle.report_tests.proofs.reports.entry_of.Given as goal

abbrev pub invariant-rows : goal.invariant-rows
invariant-rows g l = All (λ (mark : Mark). mark.label < 2) l.marks.items
