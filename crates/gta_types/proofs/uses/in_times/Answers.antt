use Rattle.std.proofs.Common.{◌≡◌, map, [], ◌∷◌, ◌++◌, sym, ap, ◌∙◌}
use Rattle.gta_types.specs.declared.declaring.InnerKind.TheVariants.{Element}
use Rattle.gta_types.specs.Names.{use_as, TableName, Within}
use Rattle.gta_types.specs.Index.{known_at}
use Rattle.gta_types.proofs.Unknown.{unknown_front, unknown_back}
use Rattle.gta_types.proofs.uses.in_times.Goals as goal

pub returns-then-is_some : goal.returns-then-is_some
returns-then-is_some c =
    let times = c.args.times.now in
    let front = use_as c.args.line TableName times.table ∷ [] in
    let one = use_as c.args.line (Within Element times.table) times.element ∷ [] in
    let back = map (use_as c.args.line (Within Element times.table)) times.products.items in
    unknown_front c.args.names.now front (one ++ back) c.unknown-found.result c.unknown-found.ensures
    c.if-is_some.ensures

pub returns-then-is_some-2 : goal.returns-then-is_some-2
returns-then-is_some-2 c =
    let times = c.args.times.now in
    let front = use_as c.args.line TableName times.table ∷ [] in
    let one = use_as c.args.line (Within Element times.table) times.element ∷ [] in
    let back = map (use_as c.args.line (Within Element times.table)) times.products.items in
    let same : known_at c.args.names.now 0 times.table ≡ c.look-of.result =
    sym (c.look-of.ensures ∙ ap (known_at c.args.names.now 0) c.bytes.ensures) in
    unknown_back c.args.names.now front (one ++ back) c.unknown-found.result _ c.unknown-found.ensures
    c.if-is_some.ensures
    (unknown_front c.args.names.now one back c.unknown_inner-found_element.result
    (c.unknown_inner-found_element.ensures times.table same) c.if-is_some-2.ensures)

pub returns : goal.returns
returns c =
    let times = c.args.times.now in
    let front = use_as c.args.line TableName times.table ∷ [] in
    let one = use_as c.args.line (Within Element times.table) times.element ∷ [] in
    let back = map (use_as c.args.line (Within Element times.table)) times.products.items in
    let same : known_at c.args.names.now 0 times.table ≡ c.look-of.result =
    sym (c.look-of.ensures ∙ ap (known_at c.args.names.now 0) c.bytes.ensures) in
    let rest = rw c.as_slice.ensures.value at (c.in_inner_names.ensures times.table same) in
    unknown_back c.args.names.now front (one ++ back) c.unknown-found.result _ c.unknown-found.ensures
    c.if-is_some.ensures
    (unknown_back c.args.names.now one back c.unknown_inner-found_element.result _
    (c.unknown_inner-found_element.ensures times.table same) c.if-is_some-2.ensures
    rest)
