use Rattle.std.proofs.Common.{◌≡◌, ℕ, ◌<◌, List, [], ◌∷◌, length, take, sym, ap, ◌∙◌, arith}
use Rattle.std.specs.List.{flat_map}
use Rattle.std.proofs.lemmas.List.{take_all}
use Rattle.std.proofs.lemmas.List.Concat.{flat_map_single}
use Rattle.gta_types.specs.Names.{use_as, Within}
use Rattle.gta_types.specs.Index.{unknown_in}
use Rattle.gta_types.proofs.Unknown.{unknown_in-nil, unknown_none_more, unknown_first}
use Rattle.gta_types.proofs.uses.in_inner_names.Goals as goal

pub loop-name-init : goal.loop-name-init
loop-name-init c = λ home same. unknown_in-nil c.args.names.now

pub returns-then-is_some : goal.returns-then-is_some
returns-then-is_some c = λ home same.
    let xs = c.args.used.now in
    let lt : c.loop-name.name-index < length xs = omega arith in
    unknown_first c.args.names.now (λ (name : List ℕ). use_as c.args.line
    (Within c.args.kind home) name ∷ []) xs c.loop-name.name-index
    c.name-item.result c.unknown_inner-found.result lt c.name-item.is (c.loop-name.invariant home same)
    (c.unknown_inner-found.ensures home same) c.if-is_some.ensures
    ∙ ap (unknown_in c.args.names.now) (flat_map_single (use_as c.args.line (Within c.args.kind home)) xs)

pub loop-name-preserved : goal.loop-name-preserved
loop-name-preserved c = λ home same.
    let xs = c.args.used.now in
    let lt : c.loop-name.name-index < length xs = omega arith in
    unknown_none_more c.args.names.now (λ (name : List ℕ). use_as c.args.line
    (Within c.args.kind home) name ∷ []) xs c.loop-name.name-index
    c.name-item.result c.unknown_inner-found.result lt c.name-item.is (c.loop-name.invariant home same)
    (c.unknown_inner-found.ensures home same) c.if-is_some.ensures

pub returns : goal.returns
returns c = λ home same.
    let xs = c.args.used.now in
    let all : take c.loop-name.name-index xs ≡ xs = take_all _ xs (omega arith) in
    sym (ap (unknown_in c.args.names.now) (sym (flat_map_single (use_as c.args.line (Within c.args.kind home)) xs))
    ∙ ap (λ (ys : List _). unknown_in c.args.names.now
    (flat_map (λ (name : List ℕ). use_as c.args.line (Within c.args.kind home) name ∷ []) ys))
    (sym all) ∙ c.loop-name.invariant home same)
