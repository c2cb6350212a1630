use Rattle.std.proofs.Common.{map}
use Rattle.std.specs.List.{flat_map}
use Rattle.gta_spec.specs.Parts.{pick_tree}
use Rattle.gta_types.specs.Names.{use_as, uses_of_pick, Within}
use Rattle.gta_types.proofs.Unknown.{unknown_front, unknown_back}
use Rattle.gta_types.proofs.uses.in_picks_and_accepted.Goals as goal

pub returns-then-is_some : goal.returns-then-is_some
returns-then-is_some c = λ home same.
    let picks = flat_map (uses_of_pick c.args.line (Within c.args.picked home)) (map pick_tree c.args.picks.now) in
    let accept = map (use_as c.args.line (Within c.args.accepted home)) c.args.accept.now in
    unknown_front c.args.names.now picks accept c.in_picks-found.result (c.in_picks-found.ensures home same)
    c.if-is_some.ensures

pub returns : goal.returns
returns c = λ home same.
    let picks = flat_map (uses_of_pick c.args.line (Within c.args.picked home)) (map pick_tree c.args.picks.now) in
    let accept = map (use_as c.args.line (Within c.args.accepted home)) c.args.accept.now in
    unknown_back c.args.names.now picks accept c.in_picks-found.result _ (c.in_picks-found.ensures home same)
    c.if-is_some.ensures (c.in_inner_names.ensures home same)
