use Rattle.std.proofs.Common.{◌++◌, [], drop, map}
use Rattle.gta_spec.specs.Parts.{case_tree}
use Rattle.gta_canonical.specs.Canonical.{line_text, fronts, next_case_front}
use Rattle.gta_canonical.proofs.Fronts.{Written}
use Rattle.gta_canonical.proofs.part_printing.put_more_cases.Given as goal

abbrev pub invariant-loop-case : goal.invariant-loop-case
invariant-loop-case l = Written next_case_front l.out.items (map case_tree (drop l.case-index l.cases))
    (l.initial.out.items ++ line_text (fronts next_case_front (map case_tree l.cases) []))
