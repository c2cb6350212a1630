use Rattle.std.proofs.Common.{◌<◌, length, arith}
use Rattle.gta_spec.specs.declared.parts.TermPart.{TermPart}
use Rattle.gta_types.specs.Names.{uses_of_term}
use Rattle.gta_types.proofs.Unknown.{unknown_in-nil, unknown_none_more, unknown_first}
use Rattle.gta_types.proofs.uses.in_form.Goals as goal

pub loop-term-init : goal.loop-term-init
loop-term-init c = unknown_in-nil c.args.names.now

pub returns-then-is_some : goal.returns-then-is_some
returns-then-is_some c =
    let xs = c.args.form.now in
    let lt : c.loop-term.term-index < length xs = omega arith in
    unknown_first c.args.names.now (λ (term : TermPart). uses_of_term c.args.line term.name) xs c.loop-term.term-index
    c.term-item.result c.in_term-found.result lt c.term-item.is c.loop-term.invariant c.in_term-found.ensures
    c.if-is_some.ensures

pub loop-term-preserved : goal.loop-term-preserved
loop-term-preserved c =
    let xs = c.args.form.now in
    let lt : c.loop-term.term-index < length xs = omega arith in
    unknown_none_more c.args.names.now (λ (term : TermPart). uses_of_term c.args.line term.name) xs
    c.loop-term.term-index
    c.term-item.result c.in_term-found.result lt c.term-item.is c.loop-term.invariant c.in_term-found.ensures
    c.if-is_some.ensures
