use Rattle.std.proofs.Common.{◌≡◌, None, [], ◌∷◌, take}
use Rattle.std.specs.List.{flat_map}
use Rattle.gta_types.specs.Names.{use_of_rank}
use Rattle.gta_types.specs.Index.{unknown_in}
use Rattle.gta_types.proofs.uses.in_ranks.Given as goal

abbrev pub invariant-loop-rank : goal.invariant-loop-rank
invariant-loop-rank l =
    unknown_in l.names (flat_map (λ rank. use_of_rank l.line rank ∷ []) (take l.rank-index l.keys)) ≡ None
