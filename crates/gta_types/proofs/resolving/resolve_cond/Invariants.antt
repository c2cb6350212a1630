use Rattle.std.proofs.Common.{◌≡◌, take, map}
use Rattle.gta_types.specs.Resolved.{resolved_atom}
use Rattle.gta_types.specs.Lists.{environment_of}
use Rattle.gta_types.proofs.resolving.resolve_cond.Given as goal

abbrev pub invariant-loop-atom : goal.invariant-loop-atom
invariant-loop-atom l = l.atoms.items ≡ map (resolved_atom (environment_of l.lists)) (take l.atom-index l.cond)
