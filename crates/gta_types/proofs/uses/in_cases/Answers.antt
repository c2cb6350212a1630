use Rattle.std.proofs.Common.{◌≡◌, ◌<◌, List, take, length, sym, ap, ◌∙◌, arith}
use Rattle.std.specs.List.{flat_map}
use Rattle.std.proofs.lemmas.List.Folds.{flat_map-map}
use Rattle.std.proofs.lemmas.List.{take_all}
use Rattle.gta_spec.specs.declared.parts.CasePart.{CasePart}
use Rattle.gta_spec.specs.Parts.{case_tree}
use Rattle.gta_types.specs.Names.{uses_of_case}
use Rattle.gta_types.specs.Index.{unknown_in}
use Rattle.gta_types.proofs.Unknown.{unknown_in-nil, unknown_none_more, unknown_first}
use Rattle.gta_types.proofs.uses.in_cases.Goals as goal

pub loop-case-init : goal.loop-case-init
loop-case-init c = unknown_in-nil c.args.names.now

pub returns-then-is_some : goal.returns-then-is_some
returns-then-is_some c =
    let xs = c.args.cases.now in
    let lt : c.loop-case.case-index < length xs = omega arith in
    unknown_first c.args.names.now (λ (case : CasePart). uses_of_case c.args.line
    (case_tree case)) xs c.loop-case.case-index
    c.case-item.result c.in_case-found.result lt c.case-item.is c.loop-case.invariant c.in_case-found.ensures
    c.if-is_some.ensures
    ∙ ap (unknown_in c.args.names.now) (sym (flat_map-map (uses_of_case c.args.line) case_tree xs))

pub loop-case-preserved : goal.loop-case-preserved
loop-case-preserved c =
    let xs = c.args.cases.now in
    let lt : c.loop-case.case-index < length xs = omega arith in
    unknown_none_more c.args.names.now (λ (case : CasePart). uses_of_case c.args.line
    (case_tree case)) xs c.loop-case.case-index
    c.case-item.result c.in_case-found.result lt c.case-item.is c.loop-case.invariant c.in_case-found.ensures
    c.if-is_some.ensures

pub returns : goal.returns
returns c =
    let xs = c.args.cases.now in
    let all : take c.loop-case.case-index xs ≡ xs = take_all _ xs (omega arith) in
    sym (ap (unknown_in c.args.names.now) (flat_map-map (uses_of_case c.args.line) case_tree xs)
    ∙ ap (λ (ys : List _). unknown_in c.args.names.now
    (flat_map (λ (case : CasePart). uses_of_case c.args.line (case_tree case)) ys)) (sym all)
    ∙ c.loop-case.invariant)
