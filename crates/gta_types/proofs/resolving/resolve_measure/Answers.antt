use Rattle.std.proofs.Common.{arith}
use Rattle.gta_spec.specs.Parts.{case_tree}
use Rattle.gta_types.specs.Ready.{IsCaseReady}
use Rattle.spec_tables.proofs.NumberOf.{each_at}
use Rattle.gta_types.proofs.resolving.resolve_measure.Goals as goal

pub resolve_case-requires : goal.resolve_case-requires
resolve_case-requires c =
    each_at IsCaseReady case_tree c.args.cases.now c.loop-case.case-index c.case-item.result c.requires (omega arith)
    c.case-item.is
