use Rattle.std.proofs.Common.{◌<◌, [], ◌∷◌, length, ap, ◌∙◌, arith}
use Rattle.std.proofs.lemmas.List.Concat.{flat_map_single}
use Rattle.gta_spec.specs.declared.parts.AtomPart.{AtomPart}
use Rattle.gta_types.specs.Names.{use_of_atom}
use Rattle.gta_types.specs.Index.{unknown_in}
use Rattle.gta_types.proofs.Unknown.{unknown_in-nil, unknown_none_more, unknown_first}
use Rattle.gta_types.proofs.uses.in_cond.Goals as goal

pub loop-atom-init : goal.loop-atom-init
loop-atom-init c = unknown_in-nil c.args.names.now

pub returns-then-is_some : goal.returns-then-is_some
returns-then-is_some c =
    let xs = c.args.cond.now in
    let lt : c.loop-atom.atom-index < length xs = omega arith in
    unknown_first c.args.names.now (λ (atom : AtomPart). use_of_atom c.args.line atom ∷ []) xs c.loop-atom.atom-index
    c.atom-item.result c.in_atom-found.result lt c.atom-item.is c.loop-atom.invariant c.in_atom-found.ensures
    c.if-is_some.ensures
    ∙ ap (unknown_in c.args.names.now) (flat_map_single (use_of_atom c.args.line) xs)

pub loop-atom-preserved : goal.loop-atom-preserved
loop-atom-preserved c =
    let xs = c.args.cond.now in
    let lt : c.loop-atom.atom-index < length xs = omega arith in
    unknown_none_more c.args.names.now (λ (atom : AtomPart). use_of_atom c.args.line atom ∷ []) xs
    c.loop-atom.atom-index
    c.atom-item.result c.in_atom-found.result lt c.atom-item.is c.loop-atom.invariant c.in_atom-found.ensures
    c.if-is_some.ensures
