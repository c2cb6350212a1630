use Rattle.std.proofs.Common.{◌≡◌, None, take}
use Rattle.std.specs.List.{flat_map}
use Rattle.gta_types.specs.Names.{uses_of_term}
use Rattle.gta_types.specs.Index.{unknown_in}
use Rattle.gta_types.proofs.uses.in_form.Given as goal

abbrev pub invariant-loop-term : goal.invariant-loop-term
invariant-loop-term l =
    unknown_in l.names (flat_map (λ term. uses_of_term l.line term.name) (take l.term-index l.form)) ≡ None
