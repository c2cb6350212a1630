use Rattle.std.proofs.Common.{rules, refl}
use Rattle.std.proofs.lemmas.Iterator.Search.{find_from_yields_List}
use Rattle.std.proofs.lemmas.Iterator.{YieldsList-from_slice}
use Rattle.gta_spec.specs.Parts.{part_tree}
use Rattle.spec_rules.specs.declared.fault.SinglePart.TheVariants as singles
use Rattle.spec_rules.specs.SpecRules.{is_single}
use Rattle.spec_rules.proofs.Lists.{find-map}
use Rattle.spec_rules.proofs.parts_once.labels_line.Goals as goal

pub returns-in-Some : goal.returns-in-Some
returns-in-Some c =
    let searched = find_from_yields_List (λ line. is_single singles.Labels (part_tree line)) _ _ _ c.find.ensures.ran
    (YieldsList-from_slice c.args.parts.now cc) (λ x b q k. search rules) in
    rw (find-map part_tree (is_single singles.Labels) c.args.parts.now, ← searched, c.in-Some.is) refl

pub returns-in-None : goal.returns-in-None
returns-in-None c =
    let searched = find_from_yields_List (λ line. is_single singles.Labels (part_tree line)) _ _ _ c.find.ensures.ran
    (YieldsList-from_slice c.args.parts.now cc) (λ x b q k. search rules) in
    rw (find-map part_tree (is_single singles.Labels) c.args.parts.now, ← searched, c.in-None.is) refl
