use Rattle.std.proofs.Common.{rules, refl}
use Rattle.std.proofs.lemmas.Iterator.Search.{find_from_yields_List}
use Rattle.std.proofs.lemmas.Iterator.{YieldsList-from_slice}
use Rattle.gta_spec.specs.Parts.{part_tree}
use Rattle.spec_rules.specs.SpecRules.{is_assign}
use Rattle.spec_rules.proofs.Lists.{find-map}
use Rattle.spec_rules.proofs.parts_once.assign_line.Goals as goal

pub returns-in-Some : goal.returns-in-Some
returns-in-Some c =
    let searched = find_from_yields_List (λ line. is_assign (part_tree line).kind) _ _ _ c.find.ensures.ran
    (YieldsList-from_slice c.args.parts.now cc) (λ x b q k. search rules) in
    rw (find-map part_tree (λ line. is_assign line.kind) c.args.parts.now, ← searched, c.in-Some.is) refl

pub returns-in-None : goal.returns-in-None
returns-in-None c =
    let searched = find_from_yields_List (λ line. is_assign (part_tree line).kind) _ _ _ c.find.ensures.ran
    (YieldsList-from_slice c.args.parts.now cc) (λ x b q k. search rules) in
    rw (find-map part_tree (λ line. is_assign line.kind) c.args.parts.now, ← searched, c.in-None.is) refl
