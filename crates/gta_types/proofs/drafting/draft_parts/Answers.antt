use Rattle.std.proofs.Common.{arith}
use Rattle.gta_spec.specs.declared.parts.Part.{Part}
use Rattle.gta_spec.specs.Parts.{kind_tree}
use Rattle.gta_types.specs.Ready.{IsReady}
use Rattle.spec_tables.proofs.NumberOf.{each_at}
use Rattle.gta_types.proofs.drafting.draft_parts.Goals as goal

pub draft_part-requires : goal.draft_part-requires
draft_part-requires c =
    each_at IsReady (λ (part : Part). kind_tree part.kind) c.args.parts.now c.loop-part.part-index c.part-item.result
    c.requires (omega arith) c.part-item.is
