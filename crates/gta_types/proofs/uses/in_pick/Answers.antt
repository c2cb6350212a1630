use Rattle.std.proofs.Common.{map, [], ◌∷◌}
use Rattle.gta_types.specs.Names.{use_as, use_of_atom, Within}
use Rattle.gta_types.proofs.Unknown.{unknown_front, unknown_back}
use Rattle.gta_types.proofs.uses.in_pick.Goals as goal

pub returns-then-is_some : goal.returns-then-is_some
returns-then-is_some c = λ home same.
    let front = use_as c.args.line (Within c.args.kind home) c.args.pick.now.element ∷ [] in
    let back = map (use_of_atom c.args.line) c.args.pick.now.cond.items in
    unknown_front c.args.names.now front back c.unknown_inner-found.result
    (c.unknown_inner-found.ensures home same) c.if-is_some.ensures

pub returns : goal.returns
returns c = λ home same.
    let front = use_as c.args.line (Within c.args.kind home) c.args.pick.now.element ∷ [] in
    let back = map (use_of_atom c.args.line) c.args.pick.now.cond.items in
    let rest = rw c.as_slice.ensures.value at c.in_cond.ensures in
    unknown_back c.args.names.now front back c.unknown_inner-found.result _
    (c.unknown_inner-found.ensures home same) c.if-is_some.ensures rest
