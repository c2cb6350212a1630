use Rattle.std.proofs.Common.{◌≡◌, ◌<◌, List, take, length, sym, ap, ◌∙◌, arith}
use Rattle.std.specs.List.{flat_map}
use Rattle.std.proofs.lemmas.List.Folds.{flat_map-map}
use Rattle.std.proofs.lemmas.List.{take_all}
use Rattle.gta_spec.specs.declared.parts.PickPart.{PickPart}
use Rattle.gta_spec.specs.Parts.{pick_tree}
use Rattle.gta_types.specs.Names.{uses_of_pick, Within}
use Rattle.gta_types.specs.Index.{unknown_in}
use Rattle.gta_types.proofs.Unknown.{unknown_in-nil, unknown_none_more, unknown_first}
use Rattle.gta_types.proofs.uses.in_picks.Goals as goal

pub loop-pick-init : goal.loop-pick-init
loop-pick-init c = λ home same. unknown_in-nil c.args.names.now

pub returns-then-is_some : goal.returns-then-is_some
returns-then-is_some c = λ home same.
    let xs = c.args.picks.now in
    let lt : c.loop-pick.pick-index < length xs = omega arith in
    unknown_first c.args.names.now (λ (pick : PickPart). uses_of_pick c.args.line (Within c.args.kind home)
    (pick_tree pick)) xs c.loop-pick.pick-index
    c.pick-item.result c.in_pick-found.result lt c.pick-item.is (c.loop-pick.invariant home same)
    (c.in_pick-found.ensures home same) c.if-is_some.ensures
    ∙ ap (unknown_in c.args.names.now)
    (sym (flat_map-map (uses_of_pick c.args.line (Within c.args.kind home)) pick_tree xs))

pub loop-pick-preserved : goal.loop-pick-preserved
loop-pick-preserved c = λ home same.
    let xs = c.args.picks.now in
    let lt : c.loop-pick.pick-index < length xs = omega arith in
    unknown_none_more c.args.names.now (λ (pick : PickPart). uses_of_pick c.args.line (Within c.args.kind home)
    (pick_tree pick)) xs c.loop-pick.pick-index
    c.pick-item.result c.in_pick-found.result lt c.pick-item.is (c.loop-pick.invariant home same)
    (c.in_pick-found.ensures home same) c.if-is_some.ensures

pub returns : goal.returns
returns c = λ home same.
    let xs = c.args.picks.now in
    let all : take c.loop-pick.pick-index xs ≡ xs = take_all _ xs (omega arith) in
    sym (ap (unknown_in c.args.names.now)
    (flat_map-map (uses_of_pick c.args.line (Within c.args.kind home)) pick_tree xs)
    ∙ ap (λ (ys : List _). unknown_in c.args.names.now
    (flat_map (λ (pick : PickPart). uses_of_pick c.args.line (Within c.args.kind home) (pick_tree pick)) ys))
    (sym all) ∙ c.loop-pick.invariant home same)
