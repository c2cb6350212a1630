use Rattle.std.proofs.Common.{◌≡◌, ◌++◌, ◌∷◌, [], map}
use Rattle.gta_spec.specs.Parts.{case_tree}
use Rattle.gta_canonical.specs.Canonical.{line_text, fronts, case_front, next_case_front, cases_front}
use Rattle.gta_canonical.proofs.Fronts.{case_splits, joined}
use Rattle.gta_canonical.proofs.part_printing.put_cases.Goals as goal

pub returns : goal.returns
returns c =
    let cut : c.args.cases.now ≡ c.in-Some.first.now ∷ c.in-Some.others.now = c.in-Some.ensures.cases.0 in
    let others = fronts next_case_front (map case_tree c.in-Some.others.now) [] in
    let parts : line_text (cases_front (map case_tree c.args.cases.now) []) ≡ line_text
    (case_front (case_tree c.in-Some.first.now) []) ++ line_text others =
    rw cut (case_splits (case_tree c.in-Some.first.now) others) in
    joined c.put_more_cases.result c.args.out.now.items c.put_case.new.out.items c.put_more_cases.new.out.items _ _ _
    c.put_more_cases.ensures c.in_ok-put_case.ensures parts
