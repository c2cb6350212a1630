use Rattle.std.proofs.Common.{◌≡◌, take, map}
use Rattle.gta_types.specs.Resolved.{resolved_rank}
use Rattle.gta_types.specs.Lists.{environment_of}
use Rattle.gta_types.proofs.resolving.resolve_ranks.Given as goal

abbrev pub invariant-loop-rank : goal.invariant-loop-rank
invariant-loop-rank l = l.ranks.items ≡ map (resolved_rank (environment_of l.lists)) (take l.rank-index l.keys)
