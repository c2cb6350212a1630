use Rattle.std.proofs.Common.{rules}
use Rattle.std.specs.List.{list_any}
use Rattle.std.proofs.lemmas.Iterator.Search.{any_from_yields_List}
use Rattle.std.proofs.lemmas.Iterator.{YieldsList-from_slice}
use Rattle.gta_spec.specs.declared.limits.TheConstants.{HEADER_LIMIT}
use Rattle.spec_rules.specs.SpecRules.{is_longer, header_texts}
use Rattle.spec_rules.proofs.Lists.{any-flat_map}
use Rattle.spec_rules.proofs.limits.have_header_past.Goals as goal

pub returns : goal.returns
returns c =
    rw (any-flat_map (λ item. header_texts item.header) (is_longer HEADER_LIMIT) c.args.items.now)
    (any_from_yields_List (λ item. list_any (is_longer HEADER_LIMIT) (header_texts item.header)) _ _ _ c.any.ensures.ran
    (YieldsList-from_slice c.args.items.now cc) (λ x b q k. search rules))
