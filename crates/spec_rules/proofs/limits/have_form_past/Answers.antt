use Rattle.std.proofs.Common.{rules, map}
use Rattle.std.proofs.lemmas.Iterator.Search.{any_from_yields_List}
use Rattle.std.proofs.lemmas.Iterator.{YieldsList-from_slice}
use Rattle.gta_spec.specs.declared.limits.TheConstants.{TERM_LIMIT}
use Rattle.spec_rules.specs.SpecRules.{is_longer}
use Rattle.spec_rules.proofs.Lists.{any-map}
use Rattle.gta_spec.specs.Parts.{case_tree}
use Rattle.spec_rules.proofs.limits.have_form_past.Goals as goal

pub returns : goal.returns
returns c =
    rw (
      any-map (λ case. case.form) (is_longer TERM_LIMIT) (map case_tree c.args.cases.now),
      any-map case_tree
          (λ case. is_longer TERM_LIMIT case.form) c.args.cases.now,
    )
    (any_from_yields_List (λ case. is_longer TERM_LIMIT (case_tree case).form) _ _ _ c.any.ensures.ran
    (YieldsList-from_slice c.args.cases.now cc) (λ x b q k. search rules))
