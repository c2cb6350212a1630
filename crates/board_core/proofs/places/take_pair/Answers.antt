use Rattle.std.proofs.Common.{◌≡◌, ◌∙◌, false, true, ap, arith, get_or}
use Rattle.std.specs.Prelude.{remove}
use Rattle.board_core.proofs.PlaceLemmas.{pair_within, pair_rest, pair_is}
use Rattle.board_core.proofs.places.take_pair.Goals as goal

pub unreachable-requires : goal.unreachable-requires
unreachable-requires g c =
    let filled = c.args.held.now.ok in
    let none : false ≡ true = c.in_default.ensures.variant.1
    (omega (arith, c.requires.place, pair_within c.args.held.now.items c.requires.found)) in
    cc

pub unreachable-requires-in_default-remove : goal.unreachable-requires-in_default-remove
unreachable-requires-in_default-remove g c =
    let filled = c.args.held.now.ok in
    let none : false ≡ true =
    c.in_default-remove.ensures.variant.1
    (omega (
      arith,
      c.requires.place,
      c.in-Some.ensures.len,
      pair_within c.args.held.now.items
          c.requires.found,
    )) in
    cc

pub returns-clause-pair : goal.returns-clause-pair
returns-clause-pair g c =
    let left = c.in-Some.left in
    let right = c.in-Some-remove.right in
    let xs = c.args.held.now.items in
    pair_is xs c.requires.found left right
    (c.in-Some.ensures.value ∙ ap (λ i. get_or xs i left) c.requires.place)
    (c.in-Some-remove.ensures.value ∙ ap (λ ys. get_or ys c.args.at right) c.in-Some.ensures.items
    ∙ ap (λ i. get_or (remove xs i) i right) c.requires.place)

pub returns-clause-items : goal.returns-clause-items
returns-clause-items g c =
    let xs = c.args.held.now.items in
    c.in-Some-remove.ensures.items ∙ ap (λ ys. remove ys c.args.at) c.in-Some.ensures.items
    ∙ ap (λ i. remove (remove xs i) i) c.requires.place ∙ pair_rest xs c.requires.found
