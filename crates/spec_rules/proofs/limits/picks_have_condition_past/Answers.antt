use Rattle.std.proofs.Common.{rules, map}
use Rattle.std.proofs.lemmas.Iterator.Search.{any_from_yields_List}
use Rattle.std.proofs.lemmas.Iterator.{YieldsList-from_slice}
use Rattle.gta_spec.specs.declared.limits.TheConstants.{ATOM_LIMIT}
use Rattle.spec_rules.specs.SpecRules.{is_longer}
use Rattle.spec_rules.proofs.Lists.{any-map}
use Rattle.gta_spec.specs.Parts.{pick_tree}
use Rattle.spec_rules.proofs.limits.picks_have_condition_past.Goals as goal

pub returns : goal.returns
returns c =
    rw (
      any-map (λ pick. pick.cond) (is_longer ATOM_LIMIT) (map pick_tree c.args.picks.now),
      any-map pick_tree
          (λ pick. is_longer ATOM_LIMIT pick.cond) c.args.picks.now,
    )
    (any_from_yields_List (λ pick. is_longer ATOM_LIMIT (pick_tree pick).cond) _ _ _ c.any.ensures.ran
    (YieldsList-from_slice c.args.picks.now cc) (λ x b q k. search rules))
