use Rattle.std.proofs.Common.{map}
use Rattle.std.specs.List.{flat_map}
use Rattle.gta_spec.specs.declared.parts.TermPart.{TermPart}
use Rattle.gta_types.specs.Names.{uses_of_term, use_of_atom}
use Rattle.gta_types.proofs.Unknown.{unknown_front, unknown_back}
use Rattle.gta_types.proofs.uses.in_case.Goals as goal

pub returns-then-is_some : goal.returns-then-is_some
returns-then-is_some c =
    let front = flat_map (λ (term : TermPart). uses_of_term c.args.line term.name) c.args.case.now.form.items in
    let back = map (use_of_atom c.args.line) c.args.case.now.cond.items in
    let here = rw c.as_slice.ensures.value at c.in_form-found.ensures in
    unknown_front c.args.names.now front back c.in_form-found.result here c.if-is_some.ensures

pub returns : goal.returns
returns c =
    let front = flat_map (λ (term : TermPart). uses_of_term c.args.line term.name) c.args.case.now.form.items in
    let back = map (use_of_atom c.args.line) c.args.case.now.cond.items in
    let here = rw c.as_slice.ensures.value at c.in_form-found.ensures in
    let rest = rw c.as_slice-2.ensures.value at c.in_cond.ensures in
    unknown_back c.args.names.now front back c.in_form-found.result _ here c.if-is_some.ensures rest
