use Rattle.std.proofs.Common.{◌≡◌, ◌++◌, ◌∷◌, [], map}
use Rattle.gta_spec.specs.Parts.{pick_tree}
use Rattle.gta_canonical.specs.Canonical.{line_text, fronts, pick_front, next_pick_front, picks_front}
use Rattle.gta_canonical.proofs.Fronts.{pick_splits, joined}
use Rattle.gta_canonical.proofs.part_printing.put_picks.Goals as goal

pub returns : goal.returns
returns c =
    let cut : c.args.picks.now ≡ c.in-Some.first.now ∷ c.in-Some.others.now = c.in-Some.ensures.cases.0 in
    let others = fronts next_pick_front (map pick_tree c.in-Some.others.now) [] in
    let parts : line_text (picks_front (map pick_tree c.args.picks.now) []) ≡ line_text
    (pick_front (pick_tree c.in-Some.first.now) []) ++ line_text others =
    rw cut (pick_splits (pick_tree c.in-Some.first.now) others) in
    joined c.put_more_picks.result c.args.out.now.items c.put_pick.new.out.items c.put_more_picks.new.out.items _ _ _
    c.put_more_picks.ensures c.in_ok-put_pick.ensures parts
