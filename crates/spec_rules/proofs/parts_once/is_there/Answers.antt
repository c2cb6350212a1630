use Rattle.std.proofs.Common.{rules}
use Rattle.std.proofs.lemmas.Iterator.Search.{any_from_yields_List}
use Rattle.std.proofs.lemmas.Iterator.{YieldsList-from_slice}
use Rattle.gta_spec.specs.Parts.{part_tree}
use Rattle.spec_rules.specs.SpecRules.{is_single}
use Rattle.spec_rules.proofs.Lists.{any-map}
use Rattle.spec_rules.proofs.parts_once.is_there.Goals as goal

pub returns : goal.returns
returns c =
    rw (any-map part_tree (is_single c.args.part) c.args.parts.now)
    (any_from_yields_List (λ line. is_single c.args.part (part_tree line)) _ _ _ c.any.ensures.ran
    (YieldsList-from_slice c.args.parts.now cc) (λ x b q k. search rules))
