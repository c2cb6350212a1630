use Rattle.std.proofs.Common.{◌≡◌, ℕ, ◌+◌, ◌<◌, List, [], ◌∷◌, ◌++◌, map, take, length, Option}
use Rattle.std.specs.Option.{option_or}
use Rattle.std.proofs.Common.{Some, None, cond, refl, sym, ap, ◌∙◌, arith}
use Rattle.gta_types.specs.Index.{declaration, declared_place, first_in}
use Rattle.spec_tables.proofs.Fronts.{map_take_next}
use Rattle.gta_types.proofs.Twice.{index_more, twice_more}
use Rattle.gta_types.proofs.index.index_of.Goals as goal

pub loop-d-init : goal.loop-d-init
unfolding first_in
loop-d-init c = record { known = c.new-names.ensures; first_twice = refl }

pub loop-d-preserved : goal.loop-d-preserved
loop-d-preserved c =
    let xs = c.args.all.now in
    let i = c.loop-d.d-index in
    let d = c.d-item.result in
    let lt : i < length xs = omega arith in
    let e : map declaration (take (i + 1) xs) ≡ map declaration (take i xs) ++ declaration d ∷ [] =
    map_take_next declaration xs i d lt c.d-item.is in
    let all = map declaration (take i xs) in
    let again = c.in_ok-again.ensures.again in
    let added = c.in_ok-again.ensures.added in
    let known = c.loop-d.invariant.known in
    rw e (record {
      known = index_more c.loop-d.names c.add.new.self all (declaration d) c.scope.result c.bytes.result.now
          c.found.result known c.scope.ensures c.bytes.ensures c.found.ensures added;
      first_twice = c.first_place-twice.ensures
          ∙ ap (λ (o : Option (ℕ × List ℕ)). option_or o
          (cond c.in_ok-again.again (Some (declared_place (declaration d))) None))
          c.loop-d.invariant.first_twice
          ∙ sym (twice_more c.loop-d.names all (declaration d) c.in_ok-again.again c.scope.result c.bytes.result.now
          known c.scope.ensures c.bytes.ensures again);
    })
