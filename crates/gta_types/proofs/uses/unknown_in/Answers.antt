use Rattle.std.proofs.Common.{◌≡◌, ◌<◌, List, take, length, sym, ap, ◌∙◌, arith}
use Rattle.std.specs.List.{flat_map}
use Rattle.std.proofs.lemmas.List.Folds.{flat_map-map}
use Rattle.std.proofs.lemmas.List.{take_all}
use Rattle.gta_spec.specs.declared.parts.Part.{Part}
use Rattle.gta_spec.specs.Parts.{kind_tree, part_tree, PartTree}
use Rattle.gta_types.specs.Names.{uses_of}
use Rattle.gta_types.specs.Index.{unknown_in}
use Rattle.gta_types.proofs.Unknown.{unknown_in-nil, unknown_none_more, unknown_first}
use Rattle.gta_types.proofs.uses.unknown_in.Goals as goal

pub loop-part-init : goal.loop-part-init
loop-part-init c = unknown_in-nil c.args.names.now

pub returns-then-is_some : goal.returns-then-is_some
returns-then-is_some c =
    let xs = c.args.parts.now in
    let lt : c.loop-part.part-index < length xs = omega arith in
    unknown_first c.args.names.now (λ (part : Part). uses_of part.line (kind_tree part.kind)) xs c.loop-part.part-index
    c.part-item.result c.in_part-found.result lt c.part-item.is c.loop-part.invariant c.in_part-found.ensures
    c.if-is_some.ensures
    ∙ ap (unknown_in c.args.names.now) (sym (flat_map-map
    (λ (part : PartTree). uses_of part.line part.kind) part_tree xs))

pub loop-part-preserved : goal.loop-part-preserved
loop-part-preserved c =
    let xs = c.args.parts.now in
    let lt : c.loop-part.part-index < length xs = omega arith in
    unknown_none_more c.args.names.now (λ (part : Part). uses_of part.line
    (kind_tree part.kind)) xs c.loop-part.part-index
    c.part-item.result c.in_part-found.result lt c.part-item.is c.loop-part.invariant c.in_part-found.ensures
    c.if-is_some.ensures

pub returns : goal.returns
returns c =
    let xs = c.args.parts.now in
    let all : take c.loop-part.part-index xs ≡ xs = take_all _ xs (omega arith) in
    sym (ap (unknown_in c.args.names.now) (flat_map-map (λ (part : PartTree). uses_of part.line part.kind) part_tree xs)
    ∙ ap (λ (ys : List _). unknown_in c.args.names.now
    (flat_map (λ (part : Part). uses_of part.line (kind_tree part.kind)) ys)) (sym all) ∙ c.loop-part.invariant)
