use Rattle.std.proofs.Common.{rules}
use Rattle.std.proofs.lemmas.Iterator.Search.{any_from_yields_List}
use Rattle.std.proofs.lemmas.Iterator.{YieldsList-from_slice}
use Rattle.gta_spec.specs.declared.limits.TheConstants.{NAME_LIMIT}
use Rattle.spec_rules.specs.SpecRules.{is_longer}
use Rattle.spec_rules.proofs.Lists.{any-map}
use Rattle.spec_rules.proofs.limits.items_have_name_past.Goals as goal

pub returns : goal.returns
returns c =
    rw (any-map (λ item. item.name) (is_longer NAME_LIMIT) c.args.items.now)
    (any_from_yields_List (λ item. is_longer NAME_LIMIT item.name) _ _ _ c.any.ensures.ran
    (YieldsList-from_slice c.args.items.now cc) (λ x b q k. search rules))
