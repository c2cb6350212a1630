use Rattle.std.proofs.Common.{◌≡◌, take, map}
use Rattle.gta_types.specs.Resolved.{resolved_term}
use Rattle.gta_types.specs.Lists.{environment_of}
use Rattle.gta_types.proofs.resolving.resolve_form.Given as goal

abbrev pub invariant-loop-term : goal.invariant-loop-term
invariant-loop-term l = l.terms.items ≡ map (resolved_term (environment_of l.lists)) (take l.term-index l.form)
