use Rattle.std.proofs.Common.{rules, map}
use Rattle.std.specs.List.{list_any}
use Rattle.std.proofs.lemmas.Iterator.Search.{any_from_yields_List}
use Rattle.std.proofs.lemmas.Iterator.{YieldsList-from_slice}
use Rattle.spec_rules.specs.SpecRules.{is_factor_past}
use Rattle.spec_rules.proofs.Lists.{any-map}
use Rattle.gta_spec.specs.Parts.{case_tree}
use Rattle.spec_rules.proofs.limits.have_factor_past.Goals as goal

pub returns : goal.returns
returns c =
    rw (
      any-map (λ case. case.form) (list_any is_factor_past) (map case_tree c.args.cases.now),
      any-map case_tree
          (λ case. list_any is_factor_past case.form) c.args.cases.now,
    )
    (any_from_yields_List (λ case. list_any is_factor_past (case_tree case).form) _ _ _ c.any.ensures.ran
    (YieldsList-from_slice c.args.cases.now cc) (λ x b q k. search rules))
