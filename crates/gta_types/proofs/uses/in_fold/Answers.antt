use Rattle.std.proofs.Common.{◌≡◌, map, [], ◌∷◌, ◌++◌, sym, ap, ◌∙◌}
use Rattle.std.specs.List.{flat_map}
use Rattle.gta_spec.specs.Parts.{pick_tree}
use Rattle.gta_types.specs.declared.declaring.InnerKind.TheVariants.{Element}
use Rattle.gta_types.specs.Names.{use_as, uses_of_pick, TableName, Within}
use Rattle.gta_types.specs.Index.{known_at}
use Rattle.gta_types.proofs.Unknown.{unknown_front, unknown_back}
use Rattle.gta_types.proofs.uses.in_fold.Goals as goal

pub returns-then-is_some : goal.returns-then-is_some
returns-then-is_some c =
    let of = c.args.table.now in
    let front = use_as c.args.line TableName of ∷ [] in
    let picks = flat_map (uses_of_pick c.args.line (Within Element of)) (map pick_tree c.args.picks.now) in
    let accept = map (use_as c.args.line (Within Element of)) c.args.accept.now in
    unknown_front c.args.names.now front (picks ++ accept) c.unknown-found.result c.unknown-found.ensures
    c.if-is_some.ensures

pub returns : goal.returns
returns c =
    let of = c.args.table.now in
    let front = use_as c.args.line TableName of ∷ [] in
    let picks = flat_map (uses_of_pick c.args.line (Within Element of)) (map pick_tree c.args.picks.now) in
    let accept = map (use_as c.args.line (Within Element of)) c.args.accept.now in
    let same : known_at c.args.names.now 0 of ≡ c.look-of.result =
    sym (c.look-of.ensures ∙ ap (known_at c.args.names.now 0) c.bytes.ensures) in
    unknown_back c.args.names.now front (picks ++ accept) c.unknown-found.result _ c.unknown-found.ensures
    c.if-is_some.ensures (c.in_picks_and_accepted.ensures of same)
